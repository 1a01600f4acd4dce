-- `image_writer::fill_band` meets its contract. The invariant is `Pages`. Assumes nothing.
use Prim.Native.Nat.{◌-◌}
use lib.ListN.{length}
use Rattle.image_writer.proofs.Band.{Pages}
use Rattle.image_writer.proofs.fill_band.Given as goal

abbrev pub invariant-loop-from : goal.invariant-loop-from
invariant-loop-from l = Pages l.initial.keys l.initial.out l.first l.keys l.out l.head l.number l.from

abbrev pub decreases-loop-from : goal.decreases-loop-from
decreases-loop-from l = length l.initial.keys - l.from
