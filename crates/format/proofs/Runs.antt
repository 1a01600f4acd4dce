-- A band's levels and pages from a run of keys, key by key, as the writer goes.
-- Assumes nothing.
use mathlib.Core.Bool.{cond}
use mathlib.Core.List.{List, [], ◌∷◌, ◌++◌, map, append-nil}
use mathlib.Core.Path.{◌≡◌, refl, sym, ap, ap₂, ◌∙◌, subst}
use Prim.Native.Nat.{ℕ, zero, suc, ◌+◌, ◌*◌, ◌-◌, ◌/◌, ◌^◌, ◌≤◌, ◌<◌}
use native.Mathlib.Nat.{div-one}
use native.Mathlib.Decide.{ℕ_discrete}
use native.Mathlib.Omega.{arith}
use lib.Dec.{eqb}
use borrow.Author.Tests.{eq-eqb}
use lib.ListN.{length, get_or, take, drop, length-append, length-drop, get_or-append}
use lib.Seq.{get_or-take, get_or-drop, length-take-le, get_or_at}
use Rattle.format.specs.Trie.{levels_of, levels_over, nodes_over, on_bits, parents}
use Rattle.format.specs.Page.{first_subtries, node_count}
use Rattle.format.specs.Image.{bands}
use Rattle.format.specs.Writer.{bands_of, pages_of, roots_in}
use Rattle.format.proofs.Lists.{map_same, all_numbers}
use Rattle.format.proofs.Trie.{Above, Nodes, Shape}
use Rattle.format.proofs.Shapes.{Over, over, length-levels_over}
use Rattle.format.proofs.Subtries.{beside, first_whole, first_beside, node_count_beside}
use Rattle.format.proofs.Pages.{Page, Paged, Follows, glue, glue_same, pages_of_lem, pages_only, shape_roots, four_levels_lem, roots_beside}
use Rattle.format.proofs.Forth.{band_at, bands_of-row}
use Rattle.format.proofs.RunHeads.{heads, last, shift, parents_of, heads_of, parents-append, Parted, parted_less, heads_append, level_append}

-- ---- a band of a run

-- the four levels above the prefixes of a run of keys without their last m bits
unfoldable pub band_over : ℕ → List ℕ → List (List ℕ)
band_over m keys = nodes_over (heads (m + 3) keys) ∷ nodes_over (heads (m + 2) keys) ∷ nodes_over (heads (m + 1) keys) ∷ nodes_over (heads m keys) ∷ []

pub band_append : (m x : ℕ) (xs : List ℕ) (y : ℕ) (ys : List ℕ) → Above x xs → Above y ys → Parted (m + 4) x xs y → band_over m ((x ∷ xs) ++ y ∷ ys) ≡ beside (band_over m (x ∷ xs)) (band_over m (y ∷ ys))
unfolding band_over
band_append m x xs y ys a b p =
    let p₃ : Parted (suc (m + 3)) x xs y = subst (λ (k : ℕ). Parted k x xs y) four p in
    let p₂ : Parted (suc (m + 2)) x xs y = parted_less (suc (m + 2)) x xs y (subst (λ (k : ℕ). Parted k x xs y) three p₃) in
    let p₁ : Parted (suc (m + 1)) x xs y = parted_less (suc (m + 1)) x xs y (subst (λ (k : ℕ). Parted k x xs y) two p₂) in
    let p₀ : Parted (suc m) x xs y = parted_less (suc m) x xs y (subst (λ (k : ℕ). Parted k x xs y) one p₁) in
    λ i. level_append (m + 3) x xs y ys a b p₃ i ∷ level_append (m + 2) x xs y ys a b p₂ i ∷ level_append (m + 1) x xs y ys a b p₁ i ∷ level_append m x xs y ys a b p₀ i ∷ []
  where
    four : m + 4 ≡ suc (m + 3)
    four = omega arith

    three : suc (m + 3) ≡ suc (suc (m + 2))
    three = omega arith

    two : suc (m + 2) ≡ suc (suc (m + 1))
    two = omega arith

    one : suc (m + 1) ≡ suc (suc m)
    one = omega arith

pub band_four : (m : ℕ) (keys : List ℕ) → length (band_over m keys) ≡ 4
unfolding band_over
band_four m keys = refl

-- one parent more
pub parents_heads : (m : ℕ) (xs : List ℕ) → parents (heads m xs) ≡ heads (suc m) xs
unfolding heads
parents_heads zero xs = refl
parents_heads (suc m) xs = parents_heads m (parents xs)

-- a level over the prefixes of a run: a node for each prefix one bit shorter, an on bit for each prefix
record LevelOver (m : ℕ) (keys : List ℕ) : Type 0 where
  count : length (nodes_over (heads m keys)) ≡ length (heads (suc m) keys)
  nodes : Nodes (nodes_over (heads m keys))
  on : on_bits (nodes_over (heads m keys)) ≡ length (heads m keys)

level_over : (m x : ℕ) (xs : List ℕ) → Above x xs → LevelOver m (x ∷ xs)
level_over m x xs a =
    let h = heads_of m x xs a in
    let o : Over (x / 2 ^ m) h.rest (parents (heads m (x ∷ xs))) (nodes_over (heads m (x ∷ xs))) = rw h.is (over (x / 2 ^ m) h.rest h.above) in
    record { count = o.same ∙ ap length (parents_heads m (x ∷ xs)); nodes = o.nodes; on = o.on ∙ sym (ap length h.is) }

pub band_shape : (m x : ℕ) (xs : List ℕ) → Above x xs → Shape (length (heads (m + 4) (x ∷ xs))) (band_over m (x ∷ xs))
unfolding band_over
band_shape m x xs a =
    let l₃ = level_over (m + 3) x xs a in
    let l₂ = level_over (m + 2) x xs a in
    let l₁ = level_over (m + 1) x xs a in
    let l₀ = level_over m x xs a in
    let e₃ : suc (m + 3) ≡ m + 4 = omega arith in
    let e₂ : suc (m + 2) ≡ m + 3 = omega arith in
    let e₁ : suc (m + 1) ≡ m + 2 = omega arith in
    let e₀ : suc m ≡ m + 1 = omega arith in (
      l₃.count ∙ at e₃,
      l₃.nodes,
      (l₂.count ∙ at e₂ ∙ sym l₃.on, l₂.nodes, (l₁.count ∙ at e₁ ∙ sym l₂.on, l₁.nodes, (l₀.count ∙ at e₀ ∙ sym l₁.on, l₀.nodes, tt))),
    )
  where
    at : {i j : ℕ} → i ≡ j → length (heads i (x ∷ xs)) ≡ length (heads j (x ∷ xs))
    at e = ap (λ (k : ℕ). length (heads k (x ∷ xs))) e

pub band_roots_lem : (m x : ℕ) (xs : List ℕ) → Above x xs → roots_in (band_over m (x ∷ xs)) ≡ length (heads (m + 4) (x ∷ xs))
band_roots_lem m x xs a = shape_roots _ (band_over m (x ∷ xs)) (band_four m (x ∷ xs)) (band_shape m x xs a)

-- its nodes: a prefix of each length, each once
pub band_nodes_lem : (m x : ℕ) (xs : List ℕ) → Above x xs
    → node_count (roots_in (band_over m (x ∷ xs))) (band_over m (x ∷ xs)) ≡ length (heads (m + 4) (x ∷ xs)) + length (heads (m + 3) (x ∷ xs)) + length (heads (m + 2) (x ∷ xs)) + length (heads (m + 1) (x ∷ xs))
unfolding band_over node_count
band_nodes_lem m x xs a = omega (arith, band_roots_lem m x xs a, (level_over (m + 3) x xs a).on, (level_over (m + 2) x xs a).on, (level_over (m + 1) x xs a).on)

pub band_links_lem : (m x : ℕ) (xs : List ℕ) → Above x xs → on_bits (get_or (band_over m (x ∷ xs)) 3 []) ≡ length (heads m (x ∷ xs))
unfolding band_over
band_links_lem m x xs a = (level_over m x xs a).on

-- ---- one more key

heads_one : (m y : ℕ) → heads m (y ∷ []) ≡ y / 2 ^ m ∷ []
unfolding heads parents
heads_one zero y = ap (◌∷ []) (sym (div-one y))
heads_one (suc m) y = heads_one m (y / 2) ∙ ap (◌∷ []) (shift y m)

pub heads_more : (m x : ℕ) (xs : List ℕ) (y : ℕ) → Above x xs → Parted m x xs y → length (heads m ((x ∷ xs) ++ y ∷ [])) ≡ length (heads m (x ∷ xs)) + 1
heads_more m x xs y a p =
    ap length (heads_append m x xs y [] a tt p) ∙ length-append (heads m (x ∷ xs)) (heads m (y ∷ [])) ∙ ap (λ (l : List ℕ). length (heads m (x ∷ xs)) + length l) (heads_one m y)

parents_same : (x : ℕ) (xs : List ℕ) (y : ℕ) → last x xs / 2 ≡ y / 2 → parents ((x ∷ xs) ++ y ∷ []) ≡ parents (x ∷ xs)
unfolding parents
parents_same x [] y e = rw (eq-eqb (x / 2) (y / 2) e) (ap (◌∷ []) (sym e))
parents_same x (z ∷ zs) y e = ap (λ (l : List ℕ). cond (eqb (x / 2) (z / 2)) l (x / 2 ∷ l)) (parents_same z zs y e)

pub heads_same : (m x : ℕ) (xs : List ℕ) (y : ℕ) → Above x xs → last x xs < y → last x xs / 2 ^ m ≡ y / 2 ^ m → heads m ((x ∷ xs) ++ y ∷ []) ≡ heads m (x ∷ xs)
unfolding heads
heads_same zero x xs y a lt e = absurd (omega (arith, div-one (last x xs), div-one y))
heads_same (suc m) x xs y a lt e =
    elim (ℕ_discrete (last x xs / 2) (y / 2)) [
      | yes s ↦ ap (heads m) (parents_same x xs y s)
      | no s ↦ let q = parents_of x xs a in
          let up : parents ((x ∷ xs) ++ y ∷ []) ≡ (x / 2 ∷ q.rest) ++ y / 2 ∷ [] = parents-append x xs y [] s ∙ ap₂ ◌++◌ q.is one in
          let below : last (x / 2) q.rest < y / 2 = omega (arith, q.end) in
          let top : last (x / 2) q.rest / 2 ^ m ≡ y / 2 / 2 ^ m = ap (◌/ 2 ^ m) q.end ∙ shift (last x xs) m ∙ e ∙ sym (shift y m) in
          ap (heads m) up ∙ heads_same m (x / 2) q.rest (y / 2) q.above below top ∙ ap (heads m) (sym q.is)
    ]
  where
    one : parents (y ∷ []) ≡ y / 2 ∷ []
    one = unfold parents in refl

-- ---- the pages of a band, one by one

heads_none : (m : ℕ) → heads m [] ≡ []
unfolding heads parents
heads_none zero = refl
heads_none (suc m) = heads_none m

over_none : (m : ℕ) → nodes_over (heads m []) ≡ []
unfolding nodes_over
over_none m = ap nodes_over (heads_none m)

pub band_none : (m : ℕ) → band_over m [] ≡ glue []
unfolding band_over
band_none m = λ i. over_none (m + 3) i ∷ over_none (m + 2) i ∷ over_none (m + 1) i ∷ over_none m i ∷ []

pub pages_none : (m : ℕ) → pages_of (band_over m []) ≡ []
pages_none m = ap pages_of (band_none m) ∙ pages_only [] tt

beside_last : (v : List (List ℕ)) → length v ≡ 4 → beside v (glue []) ≡ v
beside_last [] e = absurd (omega arith)
beside_last (a ∷ []) e = absurd (omega arith)
beside_last (a ∷ b ∷ []) e = absurd (omega arith)
beside_last (a ∷ b ∷ c ∷ []) e = absurd (omega arith)
beside_last (a ∷ b ∷ c ∷ d ∷ []) e = λ i. append-nil a i ∷ append-nil b i ∷ append-nil c i ∷ append-nil d i ∷ []
beside_last (a ∷ b ∷ c ∷ d ∷ x ∷ v) e = absurd (omega arith)

-- a run that fits a page
a_page : (m x : ℕ) (xs : List ℕ) → Above x xs → node_count (roots_in (band_over m (x ∷ xs))) (band_over m (x ∷ xs)) ≤ 240 → Page (band_over m (x ∷ xs))
a_page m x xs a h =
    let r = band_roots_lem m x xs a in
    let f = heads_of (m + 4) x xs a in
    record { four = band_four m (x ∷ xs); shape = rw r (band_shape m x xs a); some_roots = omega (arith, r, ap length f.is); fits = h }

pub pages_last : (m x : ℕ) (xs : List ℕ) → Above x xs → node_count (roots_in (band_over m (x ∷ xs))) (band_over m (x ∷ xs)) ≤ 240 → pages_of (band_over m (x ∷ xs)) ≡ band_over m (x ∷ xs) ∷ []
pages_last m x xs a h =
    let p : Paged (band_over m (x ∷ xs) ∷ []) = (a_page m x xs a h, tt, tt) in
    ap pages_of (sym (beside_last (band_over m (x ∷ xs)) (band_four m (x ∷ xs)))) ∙ pages_only (band_over m (x ∷ xs) ∷ []) p

follows_of : (t : ℕ) (band : List (List ℕ)) (ps : List (List (List ℕ))) → Paged ps → glue ps ≡ band → 240 < node_count 1 (first_subtries 1 band) + t → Follows t ps
follows_of t band [] g e h = tt
follows_of t band (q ∷ qs) g e h =
    let f : first_subtries 1 q ≡ first_subtries 1 band = sym (first_beside 1 (roots_in q) q (glue qs) g.0.some_roots (glue_same q qs g) g.0.shape) ∙ ap (first_subtries 1) e in
    rw f h

-- the first page of two runs, where the first subtrie of the second has no place on it
pub pages_first : (m x : ℕ) (xs : List ℕ) (y : ℕ) (ys : List ℕ) → Above x xs → Above y ys → Parted (m + 4) x xs y
    → node_count (roots_in (band_over m (x ∷ xs))) (band_over m (x ∷ xs)) ≤ 240
    → 240 < node_count 1 (first_subtries 1 (band_over m (y ∷ ys))) + node_count (roots_in (band_over m (x ∷ xs))) (band_over m (x ∷ xs))
    → pages_of (band_over m ((x ∷ xs) ++ y ∷ ys)) ≡ band_over m (x ∷ xs) ∷ pages_of (band_over m (y ∷ ys))
pages_first m x xs y ys a b p fits full =
    let rest = band_over m (y ∷ ys) in
    let g = pages_of_lem (length (heads (m + 4) (y ∷ ys))) rest (band_four m (y ∷ ys)) (band_shape m y ys b) in
    let all : Paged (band_over m (x ∷ xs) ∷ pages_of rest) = (a_page m x xs a fits, follows_of _ rest (pages_of rest) g.paged g.glued full, g.paged) in
    ap pages_of (band_append m x xs y ys a b p ∙ ap (beside (band_over m (x ∷ xs))) (sym g.glued)) ∙ pages_only (band_over m (x ∷ xs) ∷ pages_of rest) all

-- the first subtrie of a run: those of its keys that share the first root
pub first_run : (m x : ℕ) (xs : List ℕ) (y : ℕ) (ys : List ℕ) → Above x xs → Above y ys → Parted (m + 4) x xs y → length (heads (m + 4) (x ∷ xs)) ≡ 1
    → first_subtries 1 (band_over m ((x ∷ xs) ++ y ∷ ys)) ≡ band_over m (x ∷ xs)
first_run m x xs y ys a b p one =
    ap (first_subtries 1) (band_append m x xs y ys a b p)
    ∙ first_whole 1 (band_over m (x ∷ xs)) (band_over m (y ∷ ys)) (band_four m (x ∷ xs) ∙ sym (band_four m (y ∷ ys))) (rw one at (band_shape m x xs a))

-- ---- the bands of a list of keys

pub level_at_lem : (n : ℕ) (xs : List ℕ) (d : ℕ) → d < n → get_or (levels_over n xs) d [] ≡ nodes_over (heads (n - suc d) xs)
unfolding levels_over heads
level_at_lem zero xs d h = absurd (omega arith)
level_at_lem (suc n) xs d h =
    elim (ℕ_discrete d n) [
      | yes e ↦ let z : suc n - suc d ≡ 0 = omega arith in
          get_or_at (levels_over n (parents xs)) (nodes_over xs) [] [] d (length-levels_over n (parents xs) ∙ sym e) ∙ ap (λ (k : ℕ). nodes_over (heads k xs)) (sym z)
      | no e ↦ let s : suc n - suc d ≡ suc (n - suc d) = omega arith in
          get_or-append (levels_over n (parents xs)) (nodes_over xs ∷ []) [] d (omega (arith, length-levels_over n (parents xs)))
          ∙ level_at_lem n (parents xs) d (omega arith)
          ∙ ap (λ (k : ℕ). nodes_over (heads k xs)) (sym s)
    ]

pub band_of_keys : (keys : List ℕ) (b : ℕ) → 1 ≤ b → b ≤ 8 → band_at (levels_of keys) b ≡ band_over (32 - 4 * b) keys
unfolding band_at levels_of band_over
band_of_keys keys b lo hi =
    sym (four_levels_lem (band_at (levels_of keys) b) (length-take-le 4 (drop (4 * (b - 1)) (levels_over 32 keys)) (omega (arith, length-drop (4 * (b - 1)) (levels_over 32 keys), length-levels_over 32 keys))))
    ∙ (λ i. at 0 (32 - 4 * b + 3) (omega arith) (omega arith) i ∷ at 1 (32 - 4 * b + 2) (omega arith) (omega arith) i ∷ at 2 (32 - 4 * b + 1) (omega arith) (omega arith) i ∷ at 3 (32 - 4 * b) (omega arith) (omega arith) i ∷ [])
  where
    at : (l k : ℕ) → l < 4 → k ≡ 32 - suc (4 * (b - 1) + l) → get_or (take 4 (drop (4 * (b - 1)) (levels_over 32 keys))) l [] ≡ nodes_over (heads k keys)
    at l k h e =
        get_or-take 4 (drop (4 * (b - 1)) (levels_over 32 keys)) l [] h
        ∙ get_or-drop (4 * (b - 1)) (levels_over 32 keys) l []
        ∙ level_at_lem 32 keys (4 * (b - 1) + l) (omega arith)
        ∙ ap (λ (j : ℕ). nodes_over (heads j keys)) (sym e)

pub bands_of_keys : (keys : List ℕ) → bands_of keys ≡ map (λ b. band_over (32 - 4 * b) keys) bands
unfolding bands
bands_of_keys keys = bands_of-row keys ∙ map_same (band_at (levels_of keys)) (λ b. band_over (32 - 4 * b) keys) bands (all_numbers (λ b. band_at (levels_of keys) b ≡ band_over (32 - 4 * b) keys) 1 8 (λ b lo hi. band_of_keys keys b lo (omega arith)))

-- ---- the nodes of two runs

pub band_nodes_append : (m x : ℕ) (xs : List ℕ) (y : ℕ) (ys : List ℕ) → Above x xs → Above y ys → Parted (m + 4) x xs y
    → node_count (roots_in (band_over m ((x ∷ xs) ++ y ∷ ys))) (band_over m ((x ∷ xs) ++ y ∷ ys))
    ≡ node_count (roots_in (band_over m (x ∷ xs))) (band_over m (x ∷ xs)) + node_count (roots_in (band_over m (y ∷ ys))) (band_over m (y ∷ ys))
band_nodes_append m x xs y ys a b p =
    let e = band_append m x xs y ys a b p in
    let v = band_over m (x ∷ xs) in
    let w = band_over m (y ∷ ys) in
    ap (λ (u : List (List ℕ)). node_count (roots_in u) u) e
    ∙ ap (λ (r : ℕ). node_count r (beside v w)) (roots_beside v w (band_four m (x ∷ xs)) (band_four m (y ∷ ys)))
    ∙ node_count_beside (roots_in v) (roots_in w) v w (band_four m (x ∷ xs) ∙ sym (band_four m (y ∷ ys)))
