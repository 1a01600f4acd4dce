-- The writer's image is the first bytes of the buffer that it was lent.
-- Assumes nothing.
use mathlib.Core.Path.{◌≡◌, ap, ◌∙◌, sym}
use mathlib.Core.List.{List, [], ◌∷◌, ◌++◌, append_assoc}
use Prim.Native.Nat.{ℕ}
use native.Mathlib.Omega.{arith}
use borrow.Author.Tests.{leb-true}
use lib.ListN.{length, take, drop}
use lib.Seq.{take-append_seam, take-take}
use Rattle.format.specs.Question.{Question, Outcome, Yes, filled, returns}
use Rattle.format.specs.Writer.{image_of, list_questions, room_question, write_keys, buffer_after_write_keys}
use Rattle.format.proofs.Jobs.{yes_of_returns}
use Rattle.format.proofs.Questions.{yes_of_none}
use Rattle.format.proofs.Lists.{all_right}

-- of a buffer of `places` places, whatever stands after them
pub image_first : (asked : Question) (lift : ℕ) (keys buffer after rest : List ℕ) (n places : ℕ) → returns n ≡ write_keys asked lift keys buffer → after ≡ buffer_after_write_keys asked lift keys buffer
    → length buffer ≡ places → take n (take places (after ++ rest)) ≡ image_of lift keys
unfolding write_keys buffer_after_write_keys filled room_question
image_first asked lift keys buffer after rest n places w b long =
    let qs = asked ∷ list_questions keys ++ room_question lift keys buffer ∷ [] in
    let y = yes_of_returns qs (length (image_of lift keys)) n (sym w) in
    let room : Yes (room_question lift keys buffer) = (all_right Yes (list_questions keys) (room_question lift keys buffer ∷ []) (yes_of_none qs y.0).1).0 in
    let few = leb-true (length (image_of lift keys)) (length buffer) room in
    let is : after ≡ image_of lift keys ++ drop (length (image_of lift keys)) buffer = b ∙ ap (λ (o : Outcome ℕ). filled o (image_of lift keys) buffer) (sym w) in
    take-take n places (after ++ rest) (omega (arith, few, y.1, long))
    ∙ ap (λ (l : List ℕ). take n (l ++ rest)) is
    ∙ ap (take n) (append_assoc (image_of lift keys) (drop (length (image_of lift keys)) buffer) rest)
    ∙ ap (λ m. take m (image_of lift keys ++ (drop (length (image_of lift keys)) buffer ++ rest))) (sym y.1)
    ∙ take-append_seam (image_of lift keys) (drop (length (image_of lift keys)) buffer ++ rest)
