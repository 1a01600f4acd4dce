-- `packing::is_ascending` meets its contract. The keys are ascending if those read are, and those of the windows that are left.
-- Assumes nothing.
use mathlib.Core.Path.{◌≡◌}
use mathlib.Core.Bool.{◌&&◌}
use Rattle.format.specs.Writer.{ascending}
use Rattle.packing.proofs.is_ascending.Given as goal

abbrev pub invariant-loop-pair : goal.invariant-loop-pair
invariant-loop-pair l = record { pairs : l.pair-iterator.size ≡ 2; same : ascending l.keys ≡ l.all && ascending l.pair-iterator.rest.now }
