-- `testing::lists::clustered` meets its contract: the keys put in so far have places. Assumes nothing.
use Rattle.std.proofs.Common.{◌≤◌, length}
use Rattle.testing.proofs.lists.clustered.Given as goal

abbrev pub invariant-loop-i : goal.invariant-loop-i
invariant-loop-i l = l.n ≤ length l.keys
