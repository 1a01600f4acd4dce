-- The loop's invariant: the walk so far.
use Rattle.paged_lookup.proofs.Walking.{Walking}
use Rattle.paged_lookup.proofs.walk.Given as goal

abbrev pub invariant-loop-passed : goal.invariant-loop-passed
invariant-loop-passed l = Walking l.image l.key l.pages l.link.0 l.on l.first l.passed
