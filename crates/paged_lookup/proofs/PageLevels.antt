-- One level of a page's words, on every page that gets a yes at 9 to 11: where it starts and ends, its nodes, and what they lead to.
-- Assumes nothing.
use mathlib.Core.Path.{◌≡◌, refl, sym, ap, ◌∙◌}
use mathlib.Core.Bool.{Bool, true, false, not, cond, ◌&&◌}
use mathlib.Core.List.{List, []}
use Prim.Native.Nat.{ℕ, zero, suc, ◌+◌, ◌/◌, ◌≤◌, ◌<◌}
use native.Mathlib.Nat.{add-zero}
use native.Mathlib.Omega.{arith}
use lib.ListN.{length, get_or, take}
use Rattle.format.specs.Trie.{bit, child_at, on_bits}
use Rattle.format.specs.Page.{levels_in, node_count, offset}
use Rattle.format.specs.Question.{is_zero, node_questions}
use Rattle.format.proofs.Trie.{Shape}
use Rattle.format.proofs.Questions.{yes_of_none}
use Rattle.format.proofs.NodeQuestions.{NodesOk, nodes_of_lem, nodes_shape}
use Rattle.format.proofs.Bytes.{length-levels_in}
use Rattle.format.proofs.Places.{offset_le, offset_within, row_child, row_end, row_first, row_node, row_within}
use Rattle.nodes.specs.Words.{node_in, ones_before, pairs_in}
use Rattle.nodes.proofs.Pairs.{counted_in, length_pairs_in, nodes_in_lem, pair_in}
use Rattle.pages.specs.Page.{child_in}
use Rattle.paged_lookup.specs.Paged.{out, off, step}
use Rattle.paged_lookup.specs.Way.{PageIn, four_levels, way_at}
use Rattle.paged_lookup.proofs.Ways.{Below}

module _ {word before : List ℕ} {roots : ℕ} (d : PageIn word before roots) where
  pub page_ok : NodesOk roots (pairs_in word)
  page_ok = nodes_of_lem roots (pairs_in word) (yes_of_none (node_questions roots (pairs_in word)) d.asked)

  pub shaped : Shape roots (four_levels word roots)
  shaped = nodes_shape roots (pairs_in word) (nodes_in_lem d.gathered) (length_pairs_in word) page_ok

  pub four : length (four_levels word roots) ≡ 4
  four = length-levels_in 4 roots (pairs_in word)

  pub nodes_end : offset 4 (four_levels word roots) ≡ node_count roots (four_levels word roots)
  nodes_end = row_end (pairs_in word) roots shaped

  -- no level starts or ends past the page
  pub start_fits : (l : ℕ) → offset l (four_levels word roots) ≤ 240
  start_fits l = omega (arith, offset_le l (four_levels word roots), ap (λ (n : ℕ). offset n (four_levels word roots)) four, nodes_end, page_ok.within)

  -- ---- where a level ends

  -- the roots, and the on bits above it
  pub level_end : (l : ℕ) → l < 4 → roots + on_bits (take (offset l (four_levels word roots)) (pairs_in word)) ≡ offset (suc l) (four_levels word roots)
  unfolding on_bits
  level_end l h =
      ap (λ (n : ℕ). roots + on_bits (take n (pairs_in word))) (sym (add-zero (offset l (four_levels word roots)))) ∙ row_first (pairs_in word) roots shaped l 0 h (omega arith) ∙ add-zero (offset (suc l) (four_levels word roots))

  pub first_end : roots ≡ offset 1 (four_levels word roots)
  unfolding levels_in
  first_end = omega (arith, shaped.0)

  -- counted over the words, from where the level above it ends
  pub next_end : (l : ℕ) → l < 3 → {end : ℕ} → end ≡ offset (suc l) (four_levels word roots) → roots + ones_before word before end ≡ offset (suc (suc l)) (four_levels word roots)
  next_end l h {end} e =
      ap (λ (n : ℕ). roots + ones_before word before n) e ∙ ap (roots +◌) (counted_in d.gathered (offset (suc l) (four_levels word roots)) (start_fits (suc l))) ∙ level_end (suc l) (omega arith)

-- ---- at a node

-- node j of level l stands at a place, or the level's end does
module _ {word before : List ℕ} {roots : ℕ} (d : PageIn word before roots) (l j place : ℕ) (h : l < 4) (at : place ≡ offset l (four_levels word roots) + j) where
  unfoldable pub here : List ℕ
  here = get_or (four_levels word roots) l []

  -- there is a node where all bits were on
  pub place_room : (on : Bool) → Below (length here) (way_at on j) → (place ≤ 240) × (on ≡ true → place < 240)
  unfolding here
  place_room true k = let w = row_within (pairs_in word) roots (shaped d) l j h k in (omega (arith, w, (page_ok d).within), λ _. omega (arith, w, (page_ok d).within))
  place_room false k = (
    omega (arith, offset_within l (four_levels word roots) (omega (arith, four d)), start_fits d (suc l)),
    λ e. absurd (let z : ◌≡◌ {A = ℕ} 0 1 = cc in omega arith),
  )

  pub node_here : j < length here → node_in word place ≡ get_or here j 0
  unfolding here
  node_here k = sym (pair_in word place ((place_room true k).1 refl)) ∙ ap (λ (q : ℕ). get_or (pairs_in word) q 0) at ∙ row_node (pairs_in word) roots (shaped d) l j h k

  -- the next number on the level below
  unfoldable pub next : Bool → ℕ → ℕ
  next on side = cond on (child_at here j side) (on_bits (take j here))

  pub child_read : (on : Bool) (side : ℕ) → Below (length here) (way_at on j) → child_in word before roots place (cond on side 0) ≡ offset (suc l) (four_levels word roots) + next on side
  unfolding here next child_in
  child_read false side k =
      ap (roots +◌) (counted_in d.gathered place (place_room false k).0) ∙ ap (λ (p : ℕ). roots + on_bits (take p (pairs_in word))) at ∙ row_first (pairs_in word) roots (shaped d) l j h k
  child_read true side k = read side ∙ ap (λ (p : ℕ). roots + child_at (pairs_in word) p side) at ∙ row_child (pairs_in word) roots (shaped d) l j h k side
    where
      read : (t : ℕ) → child_in word before roots place t ≡ roots + child_at (pairs_in word) place t
      read zero = ap (roots +◌) (counted_in d.gathered place (place_room true k).0)
      read (suc t) = omega (arith, counted_in d.gathered place (place_room true k).0, ap (◌/ 2) (sym (pair_in word place ((place_room true k).1 refl))))

  pub step_read : (on : Bool) (side : ℕ) → Below (length here) (way_at on j) → way_at (on && not (is_zero (bit side (node_in word place)))) (next on side) ≡ step side here (way_at on j)
  unfolding next step
  step_read false side k = refl
  step_read true side k = ap (λ (n : ℕ). way_at (not (is_zero (bit side n))) (child_at here j side)) (node_here k) ∙ either (is_zero (bit side (get_or here j 0)))
    where
      either : (t : Bool) → way_at (not t) (child_at here j side) ≡ cond t (off (child_at here j side)) (out (child_at here j side))
      either true = refl
      either false = refl
