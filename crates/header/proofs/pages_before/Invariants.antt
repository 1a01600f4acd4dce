-- `header::pages_before` meets its contract. The loop's invariant: the pages of the bands passed stand before. Assumes nothing.
use mathlib.Core.Path.{◌≡◌}
use Prim.Native.Nat.{◌+◌, ◌*◌, ◌≤◌}
use Rattle.format.specs.Image.{pages_before}
use Rattle.header.proofs.pages_before.Given as goal

abbrev pub invariant-loop-passed : goal.invariant-loop-passed
invariant-loop-passed l = (1 ≤ l.passed) × (l.passed ≤ l.band) × (l.pages ≡ pages_before l.image l.passed) × (l.pages + 65535 ≤ 65535 * l.passed)
