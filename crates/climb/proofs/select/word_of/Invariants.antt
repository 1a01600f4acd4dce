-- The loop of `climb::select::word_of`: the on bit is not in the words before word `j`. Assumes nothing.
use Prim.Native.Nat.{◌≤◌}
use lib.ListN.{get_or}
use Rattle.climb.proofs.select.word_of.Given as goal

abbrev pub invariant-loop-j : goal.invariant-loop-j
invariant-loop-j l = get_or l.before l.j 0 ≤ l.number
