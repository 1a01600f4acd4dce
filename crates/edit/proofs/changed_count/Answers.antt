-- `edit::changed_count` meets its contract. Assumes nothing.
use native.Mathlib.Omega.{arith}
use Rattle.edit.specs.Edit.{changed_count}
use Rattle.edit.proofs.changed_count.Goals as goal

pub returns-then-keys-eq0 : goal.returns-then-keys-eq0
unfolding changed_count
returns-then-keys-eq0 c = rw c.in-Withdraw.is (omega arith)

pub returns-in-Add : goal.returns-in-Add
unfolding changed_count
returns-in-Add c = rw c.in-Add.is (omega arith)

pub returns-else-keys-eq0 : goal.returns-else-keys-eq0
unfolding changed_count
returns-else-keys-eq0 c = rw c.in-Withdraw.is (omega arith)
