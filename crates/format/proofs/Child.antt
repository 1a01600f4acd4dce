-- The steps of source document 000, Algorithm 2.1, end at paper 01's child. The statement is specs/Child.antt.
-- Assumes nothing.
use mathlib.Core.Path.{◌≡◌, refl, sym, ap, ap₂, ◌∙◌}
use mathlib.Core.Bool.{true, false}
use mathlib.Core.List.{List, [], ◌∷◌, ◌++◌, map, map-append, map-map, flat_map, sigma}
use Prim.Native.Nat.{ℕ, zero, suc, ◌+◌, ◌-◌, ◌*◌, ◌≤◌, ◌<◌}
use native.Mathlib.Nat.{add-zero}
use native.Mathlib.Omega.{arith}
use borrow.Author.Tests.{le-ltb, lt-ltb}
use lib.Dec.{ltb}
use lib.ListN.{length, get_or, take, drop}
use Rattle.format.specs.Seq.{All, cons_if, numbers_from, select, up_to}
use Rattle.format.specs.Trie.{bit, bits, child_at, on_bits}
use Rattle.format.specs.Page.{Byte, levels_in, offset, pairs_at, pairs_of}
use Rattle.format.specs.Image.{band_level, page_count, page_levels, page_pairs, page_roots}
use Rattle.format.specs.Child.{ChildSteps, band_on_bits, band_places, child_by_steps, level_with, node_at, nodes_after, number_on, on_bits_on, out_links_so_far, places_on, sides_on, step_back}
use Rattle.format.proofs.Lists.{all_drop, all_take, all_to, all_up_to, flat_map_same, numbers-split}
use Rattle.format.proofs.Trie.{Nodes, Shape}
use Rattle.format.proofs.Bytes.{length_block, length-levels_in, length_pairs, pairs_small}
use Rattle.format.proofs.NodeQuestions.{ten_shape}
use Rattle.format.proofs.Checked.{cond_no, cond_yes}
use Rattle.format.proofs.Read.{page_shape}
use Rattle.format.proofs.Accepted.{facts}
use Rattle.format.proofs.Descent.{node_at_lem, on_bits-suc}
use Rattle.format.proofs.Places.{level_next, level_nodes, offset_within}

-- ---- from a place to its level

-- place p is that of node j of level l
record AtNode (page : List (List ℕ)) (p l j : ℕ) : Type 0 where
  level_is : level_with page p ≡ get_or page l []
  number_is : number_on page p ≡ j

at_node : (page : List (List ℕ)) (p l j : ℕ) → p ≡ offset l page + j → l < length page → j < length (get_or page l []) → AtNode page p l j
unfolding level_with number_on
at_node [] p l j e h k = absurd (omega arith)
at_node (ns ∷ page) p zero j e h k =
    let t : ltb p (length ns) ≡ true = lt-ltb p (length ns) (omega arith) in
    let same : p ≡ j = omega arith in
    record { level_is = cond_yes (ltb p (length ns)) _ _ t; number_is = cond_yes (ltb p (length ns)) _ _ t ∙ same }
at_node (ns ∷ page) p (suc l) j e h k =
    let f : ltb p (length ns) ≡ false = le-ltb p (length ns) (omega arith) in
    let r = at_node page (p - length ns) l j (omega arith) (omega arith) k in
    record { level_is = cond_no (ltb p (length ns)) _ _ f ∙ r.level_is; number_is = cond_no (ltb p (length ns)) _ _ f ∙ r.number_is }

-- ---- the steps from node j of level l

-- out-links so far, after the step back, are one more than the on bits of the level before the bit
position_is : (level : List ℕ) (j side : ℕ) → j < length level → get_or level j 0 ≤ 3 → side ≤ 1 → 1 ≤ bit side (get_or level j 0)
    → on_bits (take (suc j) level) - step_back (get_or level j 0) side ≡ suc (child_at level j side)
unfolding step_back
position_is level j zero h v s b = omega (arith, on_bits-suc level j h)
position_is level j (suc zero) h v s b = omega (arith, on_bits-suc level j h)
position_is level j (suc (suc side)) h v s b = absurd (omega arith)

module _ (page : List (List ℕ)) (l j : ℕ) (h : l < length page) (k : j < length (get_or page l [])) where
  there : AtNode page (offset l page + j) l j
  there = at_node page (offset l page + j) l j refl h k

  pub node_there : node_at page (offset l page + j) ≡ get_or (get_or page l []) j 0
  unfolding node_at
  node_there = ap₂ (λ (ns : List ℕ) (n : ℕ). get_or ns n 0) there.level_is there.number_is

  pub so_far : out_links_so_far page (offset l page + j) ≡ on_bits (take (suc j) (get_or page l []))
  unfolding out_links_so_far
  so_far = ap₂ (λ (ns : List ℕ) (n : ℕ). on_bits (take (suc n) ns)) there.level_is there.number_is

  pub after : nodes_after page (offset l page + j) ≡ length (get_or page l []) - suc j
  unfolding nodes_after
  after = ap₂ (λ (ns : List ℕ) (n : ℕ). length ns - suc n) there.level_is there.number_is

  -- they end past the next level's start by the on bits of the level before the bit
  pub steps_end : (side : ℕ) → get_or (get_or page l []) j 0 ≤ 3 → side ≤ 1 → 1 ≤ bit side (get_or (get_or page l []) j 0)
      → child_by_steps page (offset l page + j) side ≡ offset (suc l) page + child_at (get_or page l []) j side
  unfolding child_by_steps
  steps_end side v s b =
      omega (arith, so_far, after, ap (λ (n : ℕ). step_back n side) node_there, position_is (get_or page l []) j side k v s b, offset_within l page h)

-- ---- one after the other

-- what is made of the pairs of each of some lists
map-sigma : {A B C : Type 0} (f : A × B → C) (xs : List A) (g : A → List B) → map f (sigma xs g) ≡ flat_map (λ x. map (λ y. f (x, y)) (g x)) xs
unfolding sigma flat_map
map-sigma f [] g = refl
map-sigma f (x ∷ xs) g = map-append f (map (λ y. (x, y)) (g x)) (sigma xs g) ∙ ap₂ ◌++◌ (map-map f (λ y. (x, y)) (g x)) (map-sigma f xs g)

sigma_same : {A B C : Type 0} (h : A → B → C) (f : A → List B) (g : A → List C) (xs : List A) → All (λ x. map (h x) (f x) ≡ g x) xs → map (λ at. (at.0, h at.0 at.1)) (sigma xs f) ≡ sigma xs g
unfolding sigma
sigma_same h f g xs e =
    map-sigma (λ at. (at.0, h at.0 at.1)) xs f
    ∙ flat_map_same (λ x. map (λ y. (x, h x y)) (f x)) (λ x. map (λ y. (x, y)) (g x)) xs
    (all_to (λ x. map (h x) (f x) ≡ g x) (λ x. map (λ y. (x, h x y)) (f x) ≡ map (λ y. (x, y)) (g x)) (λ x s. sym (map-map (λ y. (x, y)) (h x) (f x)) ∙ ap (map (λ y. (x, y))) s) xs e)

-- the on bits of one node lead to neighbours
node_ends : (f : ℕ → ℕ) (e n : ℕ) (ns : List ℕ) → 1 ≤ n → n ≤ 3 → ((side : ℕ) → side ≤ 1 → 1 ≤ bit side n → f side ≡ e + child_at (n ∷ ns) 0 side) → map f (sides_on n) ≡ numbers_from e (bits n)
unfolding sides_on select cons_if numbers_from bits on_bits
node_ends f e zero ns lo hi g = absurd (omega arith)
node_ends f e (suc zero) ns lo hi g = let a : f 1 ≡ e = omega (arith, g 1 (omega arith) (omega arith)) in λ i. a i ∷ []
node_ends f e (suc (suc zero)) ns lo hi g = let a : f 0 ≡ e = omega (arith, g 0 (omega arith) (omega arith)) in λ i. a i ∷ []
node_ends f e (suc (suc (suc zero))) ns lo hi g =
    let a : f 0 ≡ e = omega (arith, g 0 (omega arith) (omega arith)) in
    let b : f 1 ≡ suc e = omega (arith, g 1 (omega arith) (omega arith)) in
    λ i. a i ∷ b i ∷ []
node_ends f e (suc (suc (suc (suc n)))) ns lo hi g = absurd (omega arith)

child_at_next : (n : ℕ) (ns : List ℕ) (j side : ℕ) → child_at (n ∷ ns) (suc j) side ≡ bits n + child_at ns j side
unfolding on_bits
child_at_next n ns j zero = refl
child_at_next n ns j (suc side) = omega arith

-- and those of nodes in a row, so that all stand one after the other
row_ends : (f : ℕ → ℕ → ℕ) (g : ℕ → ℕ) (e p : ℕ) (ns : List ℕ) → Nodes ns → ((j : ℕ) → j < length ns → g (p + j) ≡ get_or ns j 0)
    → ((j side : ℕ) → j < length ns → side ≤ 1 → 1 ≤ bit side (get_or ns j 0) → f (p + j) side ≡ e + child_at ns j side)
    → flat_map (λ q. map (f q) (sides_on (g q))) (numbers_from p (length ns)) ≡ numbers_from e (on_bits ns)
unfolding flat_map numbers_from on_bits
row_ends f g e p [] v s t = refl
row_ends f g e p (n ∷ ns) v s t =
    ap₂ ◌++◌
    (ap (λ (m : ℕ). map (f p) (sides_on m)) (ap g (sym (add-zero p)) ∙ s 0 (omega arith))
    ∙ node_ends (f p) e n ns v.0 v.1 (λ side u b. ap (λ (q : ℕ). f q side) (sym (add-zero p)) ∙ t 0 side (omega arith) u b))
    (row_ends f g (e + bits n) (suc p) ns v.2 (λ j h. ap g (moved j) ∙ s (suc j) (omega arith))
    (λ j side h u b. ap (λ (q : ℕ). f q side) (moved j) ∙ t (suc j) side (omega arith) u b ∙ omega (arith, child_at_next n ns j side)))
    ∙ sym (numbers-split e (bits n) (on_bits ns))
  where
    moved : (j : ℕ) → suc p + j ≡ p + suc j
    moved j = omega arith

-- nodes by the places at which they stand
row_nodes : (g : ℕ → ℕ) (p : ℕ) (ns : List ℕ) → ((j : ℕ) → j < length ns → g (p + j) ≡ get_or ns j 0) → map g (numbers_from p (length ns)) ≡ ns
unfolding numbers_from
row_nodes g p [] s = refl
row_nodes g p (n ∷ ns) s =
    let first : g p ≡ n = ap g (sym (add-zero p)) ∙ s 0 (omega arith) in
    let rest = row_nodes g (suc p) ns (λ j h. let moved : suc p + j ≡ p + suc j = omega arith in ap g moved ∙ s (suc j) (omega arith)) in
    λ i. first i ∷ rest i

-- ---- in a page whose levels hang together

page_steps : (r : ℕ) (page : List (List ℕ)) → Shape r page → (l : ℕ) → suc l < length page → map (λ on. child_by_steps page on.0 on.1) (on_bits_on l page) ≡ places_on (suc l) page
unfolding on_bits_on places_on
page_steps r page s l h =
    let v = level_nodes r l page s (omega arith) in
    map-sigma (λ on. child_by_steps page on.0 on.1) (places_on l page) (λ p. sides_on (node_at page p))
    ∙ row_ends (child_by_steps page) (node_at page) (offset (suc l) page) (offset l page) (get_or page l []) v (λ j k. node_there page l j (omega arith) k)
    (λ j side k t b. steps_end page l j (omega arith) k side (node_at_lem (get_or page l []) j v k).1 t b)
    ∙ ap (numbers_from (offset (suc l) page)) (sym (level_next r l page s h))

page_level : (page : List (List ℕ)) (l : ℕ) → l < length page → map (node_at page) (places_on l page) ≡ get_or page l []
unfolding places_on
page_level page l h = row_nodes (node_at page) (offset l page) (get_or page l []) (λ j k. node_there page l j h k)

-- ---- the statement

pub child_steps : ChildSteps
unfolding band_on_bits band_places band_level page_levels
child_steps =
    record {
      in_band = λ img i b l lo hi h. sigma_same (λ k on. child_by_steps (page_levels img b k) on.0 on.1) (λ k. on_bits_on l (page_levels img b k)) (λ k. places_on (suc l) (page_levels img b k)) (up_to (page_count img b))
          (all_up_to (λ k. map (λ on. child_by_steps (page_levels img b k) on.0 on.1) (on_bits_on l (page_levels img b k)) ≡ places_on (suc l) (page_levels img b k)) (page_count img b)
          (λ k u. page_steps (page_roots img b k) (page_levels img b k) (page_shape img i.bytes (facts img i).questions b lo hi k u) l (omega (arith, length-levels_in 4 (page_roots img b k) (page_pairs img b k)))));
      nodes = λ img b l h. map-sigma (λ at. node_at (page_levels img b at.0) at.1) (up_to (page_count img b)) (λ k. places_on l (page_levels img b k))
          ∙ flat_map_same (λ k. map (node_at (page_levels img b k)) (places_on l (page_levels img b k))) (λ k. get_or (page_levels img b k) l []) (up_to (page_count img b))
          (all_up_to (λ k. map (node_at (page_levels img b k)) (places_on l (page_levels img b k)) ≡ get_or (page_levels img b k) l []) (page_count img b)
          (λ k u. page_level (page_levels img b k) l (omega (arith, length-levels_in 4 (page_roots img b k) (page_pairs img b k)))));
      in_page = λ bytes a at r fits yes l h.
          page_steps r (levels_in 4 r (pairs_at bytes at))
          (ten_shape r (pairs_at bytes at) (pairs_small (take 60 (drop (at + 4) bytes)) (all_take Byte 60 (drop (at + 4) bytes) (all_drop Byte (at + 4) bytes a)))
          (length_pairs (take 60 (drop (at + 4) bytes)) ∙ ap (4 *◌) (length_block bytes at fits a)) yes)
          l (omega (arith, length-levels_in 4 r (pairs_at bytes at)));
    }

-- ---- the worked example of docs/FORMAT.md

-- the pages of bands 7 and 8 of the eight keys of plate 12
abbrev page7 : List (List ℕ)
page7 = levels_in 4 1 (flat_map pairs_of (0xEF ∷ 0xEA ∷ 0xA8 ∷ []))

abbrev page8 : List (List ℕ)
page8 = levels_in 4 5 (flat_map pairs_of (0x9F ∷ 0xA7 ∷ 0xA6 ∷ 0x6A ∷ 0xAA ∷ 0x69 ∷ 0xAA ∷ []))

-- the steps towards key 136
worked : (child_by_steps page7 0 1 ≡ 2) × (child_by_steps page7 2 0 ≡ 4) × (child_by_steps page7 4 0 ≡ 8)
    × (child_by_steps page8 2 1 ≡ 8) × (child_by_steps page8 8 0 ≡ 16) × (child_by_steps page8 16 0 ≡ 24)
unfolding child_by_steps nodes_after out_links_so_far step_back node_at level_with number_on levels_in flat_map pairs_of on_bits bits
worked = (refl, refl, refl, refl, refl, refl)
