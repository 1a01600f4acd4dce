-- Question 12 of a row of pairs to which 9 to 11 gave a yes: whether its first subtrie had no room before. Assumes nothing.
use mathlib.Core.Path.{◌≡◌, sym, ap, ◌∙◌}
use mathlib.Core.Bool.{Bool, true, false}
use mathlib.Core.List.{List, [], ◌∷◌}
use mathlib.Core.Option.{none, some}
use Prim.Native.Nat.{ℕ, ◌+◌, ◌≤◌, ◌<◌}
use native.Mathlib.Omega.{arith}
use lib.Dec.{ltb}
use borrow.Author.Tests.{lt-ltb}
use Rattle.format.specs.Seq.{All}
use Rattle.format.specs.Page.{first_subtries, levels_in}
use Rattle.format.specs.Question.{Yes, first_no, no_room, node_questions, questions_from_9}
use Rattle.format.proofs.Bytes.{length-levels_in}
use Rattle.format.proofs.NodeQuestions.{nodes_of_lem, nodes_shape}
use Rattle.format.proofs.Questions.{after_no, after_yes, asked_no, asked_yes}
use Rattle.format.proofs.Subtries.{first_shape, length_first, node_bounds}
use Rattle.nodes.specs.Words.{Gathered, pairs_in}
use Rattle.nodes.proofs.Pairs.{length_pairs_in, nodes_in_lem}
use Rattle.checker.specs.Paged.{first_nodes}

-- the first subtrie has at least four nodes
pub four_in_first : {word counts : List ℕ} (r : ℕ) → Gathered word counts → All Yes (node_questions r (pairs_in word)) → 4 ≤ first_nodes r (pairs_in word)
four_in_first {word} {counts} r g asked =
    let ps : List ℕ = pairs_in word in
    let ok = nodes_of_lem r ps asked in
    let shape = nodes_shape r ps (nodes_in_lem g) (length_pairs_in word) ok in
    omega (arith, node_bounds 1 (first_subtries 1 (levels_in 4 r ps)) (length_first 1 (levels_in 4 r ps) ∙ length-levels_in 4 r ps) (first_shape 1 r (levels_in 4 r ps) ok.some_roots shape))

-- so after more than 236 nodes it has no room, and else its nodes tell
pub room_full : {word counts : List ℕ} (r v : ℕ) → Gathered word counts → All Yes (node_questions r (pairs_in word)) → 236 < v → true ≡ no_room v (levels_in 4 r (pairs_in word))
unfolding no_room
room_full {word} {counts} r v g asked h = sym (lt-ltb 240 (first_nodes r (pairs_in word) + v) (omega (arith, four_in_first r g asked)))

pub room_told : (pairs : List ℕ) (r v n : ℕ) → n ≡ first_nodes r pairs → ltb 240 (n + v) ≡ no_room v (levels_in 4 r pairs)
unfolding no_room
room_told pairs r v n e = ap (λ (n : ℕ). ltb 240 (n + v)) e

-- ---- 9 to 12, from what is found of 9 to 11

module _ (pairs : List ℕ) (r v : ℕ) where
  -- one of 9 to 11 gets a no
  pub refused_before : (x : ℕ) → some x ≡ first_no (node_questions r pairs) → some x ≡ first_no (questions_from_9 r pairs (no_room v (levels_in 4 r pairs)))
  unfolding questions_from_9
  refused_before x e = sym (after_no (node_questions r pairs) _ x (sym e))

  module _ (asked : none ≡ first_no (node_questions r pairs)) (t : Bool) (e : t ≡ no_room v (levels_in 4 r pairs)) where
    -- 12 alone is left to ask
    past-11 : first_no (questions_from_9 r pairs (no_room v (levels_in 4 r pairs))) ≡ first_no ((12, t) ∷ [])
    unfolding questions_from_9
    past-11 = after_yes (node_questions r pairs) _ (sym asked) ∙ ap (λ b. first_no ((12, b) ∷ [])) (sym e)

    pub needed : t ≡ true → none ≡ first_no (questions_from_9 r pairs (no_room v (levels_in 4 r pairs)))
    unfolding first_no
    needed h = sym (past-11 ∙ asked_yes 12 t [] h)

    pub not_needed : t ≡ false → some 12 ≡ first_no (questions_from_9 r pairs (no_room v (levels_in 4 r pairs)))
    not_needed h = sym (past-11 ∙ asked_no 12 t [] h)
