-- `edit::few_enough` meets its contract. Assumes nothing.
use native.Mathlib.Numerals.{add-one}
use Rattle.edit.specs.Edit.{changed_count, few_enough}
use Rattle.edit.proofs.few_enough.Goals as goal

pub returns-in-Add : goal.returns-in-Add
unfolding few_enough changed_count
returns-in-Add c = rw (c.in-Add.is, add-one)

pub returns-in-Withdraw : goal.returns-in-Withdraw
unfolding few_enough
returns-in-Withdraw c = rw c.in-Withdraw.is
