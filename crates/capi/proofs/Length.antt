-- An image has at most 24,640 bytes, so the answer of the writer, and of an edit, is handed to C as it is.
-- Assumes nothing.
use mathlib.Core.Path.{◌≡◌, sym, ap, ◌∙◌}
use mathlib.Core.List.{List, [], ◌∷◌, ◌++◌}
use Prim.Native.Nat.{ℕ, ◌^◌, ◌≤◌, ◌<◌}
use native.Mathlib.Omega.{arith}
use lib.IntN.{ℤ}
use lib.ListN.{length}
use Rattle.format.specs.declared.Admission.{Admission}
use Rattle.format.specs.Seq.{All}
use Rattle.format.specs.Page.{Byte}
use Rattle.format.specs.Key.{Admissible, key_of, woven}
use Rattle.format.specs.Question.{Yes, returns}
use Rattle.format.specs.Writer.{image_of, lift_question, list_questions, room_question, write, buffer_after_write, write_keys}
use Rattle.format.proofs.Lists.{all_left}
use Rattle.format.proofs.Questions.{none_of_yes, yes_of_none}
use Rattle.format.proofs.Jobs.{of_writable, yes_of_returns}
use Rattle.format.proofs.Members.{woven_fits}
use Rattle.format.proofs.Bounds.{page_bound}
use Rattle.std.specs.Prelude.{Result, Ok, Err}
use Rattle.format.specs.Refusal.{outcome_of}
use Rattle.format.specs.declared.refusal.Refusal.{Refusal}
use Rattle.writer.specs.Outcomes.{WrittenKeys, WrittenList, pairs_in}
use Rattle.capi.proofs.Answers.{Within}
use Rattle.edit.specs.declared.Change.{Change}
use Rattle.edit.specs.Edit.{changed_image, edit}
use Rattle.edit.specs.Outcomes.{EditedRight}
use Rattle.edit.proofs.Edits.{edit_laws}
use Rattle.capi.specs.Encoding.{EditedToC, WrittenToC, encoded}

-- a length that the writer returns is within format's bound
keys_small : (lift : ℕ) (keys : List ℕ) → All (λ key. key < 2 ^ 32) keys → (buffer : List ℕ) (n : ℕ) → write_keys (lift_question lift) lift keys buffer ≡ returns n → n ≤ 24640
unfolding write_keys
keys_small lift keys fits buffer n e =
    let qs = lift_question lift ∷ list_questions keys ++ room_question lift keys buffer ∷ [] in
    let (asked, same) = yes_of_returns qs (length (image_of lift keys)) n e in
    let q = of_writable keys (none_of_yes (list_questions keys) (all_left Yes (list_questions keys) (room_question lift keys buffer ∷ []) (yes_of_none qs asked).1)) in
    omega (arith, same, (page_bound.of_list lift keys fits q.0 q.1).size)

-- so is the one that its answer holds
pub keys_within : (lift : ℕ) (keys : List ℕ) → All (λ key. key < 2 ^ 32) keys → (buffer : List ℕ) (t : Result ℕ Refusal) (buffer' : List ℕ) → WrittenKeys (lift_question lift) lift keys buffer t buffer' → Within 24640 t
keys_within lift keys fits buffer (Ok n) buffer' w = keys_small lift keys fits buffer n (sym w.returned)
keys_within lift keys fits buffer (Err refusal) buffer' w = tt

-- and to the lent list
pub within : (lift : ℕ) (list : List Admission) (buffer : List ℕ) (t : Result ℕ Refusal) (buffer' : List ℕ) → WrittenList lift list buffer t buffer' → Within 24640 t
unfolding write buffer_after_write
within lift list buffer t buffer' w = keys_within lift (woven (pairs_in list)) (woven_fits (pairs_in list)) buffer t buffer' (record { returned = w.returned; bytes = w.bytes })

-- what the writer answers and leaves in the buffer, as C gets it
pub to_c : (lift : ℕ) (list : List Admission) (buffer : List ℕ) (t : Result ℕ Refusal) (r : ℤ) (buffer' : List ℕ) → WrittenList lift list buffer t buffer' → r ≡ encoded (outcome_of t) → WrittenToC lift list buffer r buffer'
to_c lift list buffer t r buffer' w e = record { returned = e ∙ ap encoded w.returned; bytes = w.bytes }

-- ---- an edit

-- a length that it returns is that of an accepted image
edit_small : (change : Change) (img records : List ℕ) (holder slot : ℕ) (image' records' : List ℕ) → All Byte img → Admissible (holder, slot) → (n : ℕ) → edit change img records holder slot image' records' ≡ returns n → n ≤ 24640
unfolding edit
edit_small change img records holder slot image' records' bytes small n e =
    let d = edit_laws.returned change img records holder slot bytes small image' records' n e in
    let c = edit_laws.changed change img records holder slot _ _ d in
    omega (arith, (page_bound.of_image _ c.accepted).size, (yes_of_returns _ (length (changed_image change img (key_of holder slot))) n e).1)

pub edit_within : (change : Change) (img records : List ℕ) (holder slot : ℕ) (image' records' : List ℕ) → All Byte img → Admissible (holder, slot) → (t : Result ℕ Refusal) (image'' records'' : List ℕ)
    → EditedRight change img records holder slot image' records' t image'' records'' → Within 24640 t
edit_within change img records holder slot image' records' bytes small (Ok n) image'' records'' d = edit_small change img records holder slot image' records' bytes small n (sym d.returned)
edit_within change img records holder slot image' records' bytes small (Err refusal) image'' records'' d = tt

-- what an edit answers and leaves in the outputs, as C gets it
pub edit_to_c : (change : Change) (img records : List ℕ) (holder slot : ℕ) (image' records' : List ℕ) (t : Result ℕ Refusal) (image'' records'' : List ℕ) (r : ℤ)
    → EditedRight change img records holder slot image' records' t image'' records'' → r ≡ encoded (outcome_of t) → EditedToC change img records holder slot image' records' r image'' records''
edit_to_c change img records holder slot image' records' t image'' records'' r d e = record { returned = e ∙ ap encoded d.returned; image = d.image; recorded = d.recorded }
