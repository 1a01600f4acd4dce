-- `repair::judge::judge` meets its contract. The loop's invariant: the header and the bands passed are sound, and their numbers are noted. Assumes nothing.
use Rattle.repair.proofs.Verdict.{Bands}
use Rattle.repair.proofs.judge.judge.Given as goal

abbrev pub invariant-loop-passed : goal.invariant-loop-passed
invariant-loop-passed l = Bands l.image l.passed l.first l.due.0 l.counts l.t l.b
