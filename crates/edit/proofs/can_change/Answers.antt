-- `edit::can_change` meets its contract. Assumes nothing.
use Rattle.edit.specs.Edit.{can_change}
use Rattle.edit.proofs.can_change.Goals as goal

pub returns-in-Add : goal.returns-in-Add
unfolding can_change
returns-in-Add c = rw c.in-Add.is

pub returns-in-Withdraw : goal.returns-in-Withdraw
unfolding can_change
returns-in-Withdraw c = rw c.in-Withdraw.is
