-- `writer::list::weave_first` meets its contract. The invariant: the first i keys are woven, and the rest is as it was.
use mathlib.Core.Path.{◌≡◌}
use mathlib.Core.List.{◌++◌}
use lib.ListN.{take, drop}
use Rattle.writer.specs.List.{keys_in}
use Rattle.writer.proofs.list.weave_first.Given as goal

abbrev pub invariant-loop-i : goal.invariant-loop-i
invariant-loop-i l = l.keys ≡ keys_in (take l.i l.list) ++ drop l.i l.initial.keys
