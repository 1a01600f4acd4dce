-- The answer of finding by rank in the papers' terms: a refusal's number, or holder and slot.
-- Assumes nothing.
use Rattle.std.specs.Prelude.{ℕ, Result, Ok, Err}
use Rattle.format.specs.Question.{Outcome, refused, returns}
use Rattle.format.specs.Refusal.{number_of}
use Rattle.format.specs.declared.Admission.{Admission}
use Rattle.format.specs.declared.refusal.Refusal.{Refusal}

abbrev pub find_outcome : Result Admission Refusal → Outcome (ℕ × ℕ)
find_outcome (Ok admission) = returns (admission.holder, admission.slot)
find_outcome (Err refusal) = refused (number_of refusal)
