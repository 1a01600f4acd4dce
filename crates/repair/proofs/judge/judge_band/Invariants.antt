-- `repair::judge::judge_band` meets its contract. The loop's invariant: the pages passed are sound, and their T and B are noted. Assumes nothing.
use Rattle.repair.proofs.Judging.{Judging}
use Rattle.repair.proofs.judge.judge_band.Given as goal

abbrev pub invariant-loop-i : goal.invariant-loop-i
invariant-loop-i l =
    Judging l.image l.band l.first l.i-end l.i l.roots.0 l.links.0 l.nodes l.per_page l.t l.b
