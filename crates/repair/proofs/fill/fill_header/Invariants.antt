-- `repair::fill::fill_header` meets its contract. The loop's invariant: the numbers passed are put, and counted where they differ. Assumes nothing.
use Rattle.repair.proofs.Filling.{HeaderLoop}
use Rattle.repair.proofs.fill.fill_header.Given as goal

abbrev pub invariant-loop-k : goal.invariant-loop-k
invariant-loop-k l = HeaderLoop l.image l.counts l.initial.out l.out l.k l.altered
