-- A refusal's number, and the answer of a job that may refuse.
-- Assumes nothing.
use Rattle.std.specs.Prelude.{ℕ, Result, Ok, Err}
use Rattle.std.proofs.Math.Option.{Option, none, some}
use Rattle.format.specs.Question.{Outcome, refused, returns}
use Rattle.format.specs.declared.refusal.Refusal.{Refusal}
use Rattle.format.specs.declared.refusal.Refusal.TheVariants as variant

-- the number of the question that got a no
abbrev pub number_of : Refusal → ℕ
number_of variant.Header = 1
number_of variant.Mark = 2
number_of variant.Version = 3
number_of variant.KeyCount = 4
number_of variant.ZeroBytes = 5
number_of variant.Length = 6
number_of variant.BandCounts = 7
number_of variant.Counters = 8
number_of variant.Roots = 9
number_of variant.Nodes = 10
number_of variant.Padding = 11
number_of variant.Packing = 12
number_of variant.Links = 13
number_of variant.More = 14
number_of variant.Order = 15
number_of variant.Room = 17
number_of variant.Rectangle = 18
number_of variant.Place = 19
number_of variant.Rank = 20
number_of variant.Records = 21
number_of variant.Time = 22
number_of variant.Openings = 23
number_of variant.Admission = 24
number_of variant.Earlier = 25
number_of variant.Lockout = 26
number_of variant.Page = 27
number_of variant.Number = 28
number_of variant.Lane = 29
number_of variant.Change = 30
number_of variant.Lift = 35
number_of variant.Gate = 36
number_of variant.Repair = 37

-- what a job answers: the number of the question that got a no, or what it returns
abbrev pub outcome_of : {A : Type 0} → Result A Refusal → Outcome A
outcome_of (Ok a) = returns a
outcome_of (Err refusal) = refused (number_of refusal)

-- the number of the first question that gets a no, from the answer of a function that asks some
abbrev pub refusal_of : {A : Type 0} → Result A Refusal → Option ℕ
refusal_of (Ok a) = none
refusal_of (Err refusal) = some (number_of refusal)
