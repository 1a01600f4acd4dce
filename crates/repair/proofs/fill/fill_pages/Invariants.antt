-- `repair::fill::fill_pages` meets its contract. The loop's invariant: T and B of the pages passed are put, and counted where they differ. Assumes nothing.
use Rattle.repair.proofs.Filling.{PagesLoop}
use Rattle.repair.proofs.fill.fill_pages.Given as goal

abbrev pub invariant-loop-p : goal.invariant-loop-p
invariant-loop-p l = PagesLoop l.image l.t l.b l.initial.out l.out l.end l.p l.altered
