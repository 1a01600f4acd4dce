-- The loop of `subtries::level::next_level`: what the bits passed have given, and the word starts with the next node. Assumes nothing.
use Prim.Native.Nat.{◌-◌}
use Rattle.reader.specs.Page.{NodesIn}
use Rattle.subtries.proofs.Reading.{Reading}
use Rattle.subtries.proofs.level.next_level.Given as goal

abbrev pub invariant-loop-passed : goal.invariant-loop-passed
invariant-loop-passed l = (Reading l.page l.set l.width l.place l.bits l.at (l.width - l.passed)) × (NodesIn l.nodes l.page l.at (l.width - l.passed))
