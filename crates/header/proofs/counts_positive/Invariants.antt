-- `header::counts_positive` meets its contract. The loop's invariant: the counts passed are at least 1, so those left decide. Assumes nothing.
use mathlib.Core.Path.{◌≡◌}
use Prim.Native.Nat.{◌-◌, ◌≤◌}
use Rattle.format.specs.Seq.{every, numbers_from}
use Rattle.header.specs.Counts.{counts_positive}
use Rattle.header.proofs.counts_positive.Given as goal

abbrev pub invariant-loop-band : goal.invariant-loop-band
invariant-loop-band l = (l.band ≤ 9) × (every (counts_positive l.image) (numbers_from 2 7) ≡ every (counts_positive l.image) (numbers_from l.band (9 - l.band)))
