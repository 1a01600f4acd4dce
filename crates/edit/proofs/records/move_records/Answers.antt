-- `edit::records::move_records` meets its contract. Assumes nothing.
use native.Mathlib.Omega.{arith}
use Rattle.edit.specs.Edit.{changed_count}
use Rattle.edit.proofs.records.move_records.Goals as goal

pub records_with-requires : goal.records_with-requires
unfolding changed_count
records_with-requires c =
    let p = c.requires in
    let r = rw c.in-Add.is at p.room in
    (p.size, p.within, p.few, omega arith)

pub records_without-requires : goal.records_without-requires
unfolding changed_count
records_without-requires c =
    let p = c.requires in
    let r = rw c.in-Withdraw.is at p.room in
    (p.size, p.within, p.few, omega arith)

pub returns-in-Add : goal.returns-in-Add
unfolding changed_count
returns-in-Add c = rw c.in-Add.is c.records_with.ensures

pub returns-in-Withdraw : goal.returns-in-Withdraw
unfolding changed_count
returns-in-Withdraw c = rw c.in-Withdraw.is c.records_without.ensures
