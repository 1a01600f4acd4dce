-- The writer's answers in the papers' terms, and what each job leaves in the lent buffer.
-- Assumes nothing.
use Rattle.std.specs.Prelude.{◌≡◌, cond, List, map, ℕ, ◌≤◌, ◌<◌, take, Result, Err}
use Rattle.format.specs.declared.Admission.{Admission}
use Rattle.format.specs.Question.{Question, is_lift}
use Rattle.format.specs.Refusal.{outcome_of}
use Rattle.format.specs.declared.refusal.Refusal.{Refusal}
use Rattle.format.specs.declared.refusal.Refusal.TheVariants.{Lift, More}
use Rattle.format.specs.Writer.{write, buffer_after_write, write_keys, buffer_after_write_keys}

-- the answer and the buffer at exit, where `asked` is the first question, for a lift, a list of keys and the buffer as it was lent
pub record WrittenKeys (asked : Question) (lift : ℕ) (keys buffer : List ℕ) (answer : Result ℕ Refusal) (buffer' : List ℕ) : Type 0 where
  pub returned : outcome_of answer ≡ write_keys asked lift keys buffer
  pub bytes : buffer' ≡ buffer_after_write_keys asked lift keys buffer

-- the pairs of holder and slot that format's definitions speak of
abbrev pub pairs_in : List Admission → List (ℕ × ℕ)
pairs_in list = map {B = ℕ × ℕ} (λ (a : Admission). (a.holder, a.slot)) list

-- the answer and the buffer at exit, for a lift, the lent list and the buffer as it was lent
pub record WrittenList (lift : ℕ) (list : List Admission) (buffer : List ℕ) (answer : Result ℕ Refusal) (buffer' : List ℕ) : Type 0 where
  pub returned : outcome_of answer ≡ write lift (pairs_in list) buffer
  pub bytes : buffer' ≡ buffer_after_write lift (pairs_in list) buffer

-- the same for the first n of an array of 4,096; a larger n gets a no at 14, unless 35 does, and the buffer is as it was
pub data WrittenFirst (lift : ℕ) (list : List Admission) (n : ℕ) (buffer : List ℕ) (answer : Result ℕ Refusal) (buffer' : List ℕ) : Type 0 where
  in_array : n ≤ 4096 → WrittenList lift (take n list) buffer answer buffer' → WrittenFirst lift list n buffer answer buffer'
  past_array : 4096 < n → answer ≡ Err (cond (is_lift lift) More Lift) → buffer' ≡ buffer → WrittenFirst lift list n buffer answer buffer'
