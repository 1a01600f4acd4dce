-- `packing::page_run` meets its contract. The invariant is `Scan`. Assumes nothing.
use Rattle.packing.proofs.Scan.{Scan}
use Rattle.packing.proofs.page_run.Given as goal

abbrev pub invariant-loop-i : goal.invariant-loop-i
invariant-loop-i l = Scan l.keys 0 l.start l.i l.used l.size
