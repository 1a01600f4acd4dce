-- The band above a run of prefixes: its roots, its nodes, its first subtrie and its first page.
-- Assumes nothing.
use mathlib.Core.Path.{◌≡◌, refl, sym, ap, ◌∙◌}
use mathlib.Core.List.{List, [], ◌∷◌, ◌++◌}
use mathlib.Core.Bool.{Bool, true, false, cond}
use Prim.Native.Nat.{ℕ, zero, suc, ◌+◌, ◌/◌, ◌≤◌, ◌<◌}
use lib.Dec.{eqb}
use native.Mathlib.Omega.{arith}
use lib.ListN.{length, get_or, take}
use lib.Seq.{take_all}
use Rattle.format.specs.Page.{first_subtries, node_count}
use Rattle.format.specs.Trie.{parents, levels_over, on_bits}
use Rattle.format.specs.Writer.{pages_of, roots_in}
use Rattle.format.proofs.Trie.{Asc, Shape}
use Rattle.format.proofs.Subtries.{node_bounds}
use Rattle.format.proofs.RunHeads.{heads, heads_of, Parted}
use Rattle.format.proofs.Runs.{band_over, band_four, band_shape, band_roots_lem, band_links_lem, band_nodes_lem, band_nodes_append, band_none, pages_first, pages_last, pages_none, first_run}
use Rattle.packing.specs.Run.{band_above, roots_above}
use Rattle.packing.proofs.Runs.{Run, heads_append_run}

-- the band in the terms of format's laws
pub band_is : (l : List ℕ) → band_above l ≡ band_over 0 l
unfolding band_above band_over levels_over heads
band_is l = refl

pub roots_is : (l : List ℕ) → roots_above l ≡ heads 4 l
unfolding roots_above heads
roots_is l = refl

-- the nodes of the band above a run
unfoldable pub nodes_in : List ℕ → ℕ
nodes_in l = node_count (roots_in (band_above l)) (band_above l)

pub nodes_none : nodes_in [] ≡ 0
unfolding nodes_in node_count roots_in on_bits
nodes_none = ap (λ (band : List (List ℕ)). node_count (roots_in band) band) (band_is [] ∙ band_none 0)

pub no_pages : pages_of (band_above []) ≡ []
no_pages = ap pages_of (band_is []) ∙ pages_none 0

pub four : (l : List ℕ) → length (band_above l) ≡ 4
four l = rw (band_is l) (band_four 0 l)

module _ (x z : ℕ) (l : List ℕ) (r : Run x z l) where
  pub nodes_are : nodes_in l ≡ length (heads 4 l) + length (heads 3 l) + length (heads 2 l) + length (heads 1 l)
  unfolding nodes_in
  nodes_are = rw (band_is l, r.is) (band_nodes_lem 0 x r.rest r.above)

  pub shape : Shape (length (heads 4 l)) (band_above l)
  shape = rw (band_is l, r.is) (band_shape 0 x r.rest r.above)

  pub roots_are : roots_in (band_above l) ≡ length (heads 4 l)
  roots_are = rw (band_is l, r.is) (band_roots_lem 0 x r.rest r.above)

  pub links_are : on_bits (get_or (band_above l) 3 []) ≡ length l
  unfolding heads
  links_are = rw (band_is l, r.is) (band_links_lem 0 x r.rest r.above)

  -- a band of one page
  pub pages_whole : nodes_in l ≤ 240 → pages_of (band_above l) ≡ band_above l ∷ []
  unfolding nodes_in
  pages_whole fits = rw (band_is l, r.is) (pages_last 0 x r.rest r.above (rw (band_is l, r.is) at fits))

  -- a run with one root is a subtrie
  module _ (one : length (heads 4 l) ≡ 1) where
    pub one_shape : Shape 1 (band_above l)
    one_shape = rw (← one) shape

    pub one_count : node_count 1 (band_above l) ≡ nodes_in l
    unfolding nodes_in
    one_count = let k : roots_in (band_above l) ≡ 1 = roots_are ∙ one in rw k refl

    pub one_small : nodes_in l ≤ 15
    one_small = omega (arith, one_count, node_bounds 1 (band_above l) (four l) one_shape)

-- two runs side by side, which have no root in common
module _ (x z y w : ℕ) (l k : List ℕ) (r : Run x z l) (q : Run y w k) (apart : z / 16 ≡ y / 16 → ⊥) where
  ends-apart : Parted 4 x r.rest y
  ends-apart e = apart (ap (◌/ 16) (sym r.end) ∙ e)

  pub nodes_join : nodes_in (l ++ k) ≡ nodes_in l + nodes_in k
  unfolding nodes_in
  nodes_join = rw (band_is (l ++ k), band_is l, band_is k, r.is, q.is) (band_nodes_append 0 x r.rest y q.rest r.above q.above ends-apart)

  pub pages_cut : nodes_in l ≤ 240 → 240 < node_count 1 (first_subtries 1 (band_above k)) + nodes_in l → pages_of (band_above (l ++ k)) ≡ band_above l ∷ pages_of (band_above k)
  unfolding nodes_in
  pages_cut fits full =
      rw (band_is (l ++ k), band_is l, band_is k, r.is, q.is)
      (pages_first 0 x r.rest y q.rest r.above q.above ends-apart (rw (band_is l, r.is) at fits) (rw (band_is l, band_is k, r.is, q.is) at full))

  pub first_cut : length (heads 4 l) ≡ 1 → first_subtries 1 (band_above (l ++ k)) ≡ band_above l
  first_cut one = rw (band_is (l ++ k), band_is l, r.is, q.is) (first_run 0 x r.rest y q.rest r.above q.above ends-apart (rw r.is at one))

  pub roots_join : heads 4 (l ++ k) ≡ heads 4 l ++ heads 4 k
  roots_join = heads_append_run 4 x z y w l k r q apart

pub first_all : (r : ℕ) (v : List (List ℕ)) → Shape r v → first_subtries r v ≡ v
unfolding first_subtries
first_all r [] s = refl
first_all r (ns ∷ v) s =
    let e : take r ns ≡ ns = take_all r ns (omega (arith, s.0)) in
    λ i. e i ∷ (ap (λ (l : List ℕ). first_subtries (on_bits l) v) e ∙ first_all (on_bits ns) v s.2) i

-- prefixes are no more than what they are prefixes of
parents_few : (l : List ℕ) → length (parents l) ≤ length l
unfolding parents
parents_few [] = omega arith
parents_few (x ∷ []) = omega arith
parents_few (x ∷ y ∷ l) = choose (eqb (x / 2) (y / 2)) (parents (y ∷ l)) (parents_few (y ∷ l))
  where
    choose : (b : Bool) (ps : List ℕ) → length ps ≤ suc (length l) → length (cond b ps (x / 2 ∷ ps)) ≤ suc (suc (length l))
    choose true ps h = omega arith
    choose false ps h = omega arith

pub heads_few : (k : ℕ) (l : List ℕ) → length (heads k l) ≤ length l
unfolding heads
heads_few zero l = omega arith
heads_few (suc k) l = omega (arith, heads_few k (parents l), parents_few l)

-- prefixes of prefixes are ascending, and there is one
pub record Listed (p : List ℕ) : Type 0 where
  pub some : 1 ≤ length p
  pub asc : Asc p

pub heads_listed : (k x z : ℕ) (q : List ℕ) → Run x z q → Listed (heads k q)
heads_listed k x z q r =
    let h = heads_of k x r.rest r.above in
    let e = ap (heads k) r.is ∙ h.is in
    record { some = omega (arith, ap length e); asc = rw e h.above }
