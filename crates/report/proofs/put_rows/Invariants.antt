-- `report::put_rows` meets its contract. The loop's invariant: the lines of the keys passed are written. Assumes nothing.
use Prim.Native.Nat.{◌*◌}
use lib.ListN.{take}
use Rattle.format.specs.Text.{rows}
use Rattle.report.specs.Row.{Put}
use Rattle.report.proofs.put_rows.Given as goal

abbrev pub invariant-loop-i : goal.invariant-loop-i
invariant-loop-i l = Put l.initial.out l.at (rows 0 (take l.i l.keys)) (18 * l.i) l.out l.next
