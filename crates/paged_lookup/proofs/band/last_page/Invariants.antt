-- `paged_lookup::band::last_page` meets its contract. The loop's invariant: all later pages have a larger T. Assumes nothing.
use Rattle.paged_lookup.proofs.Finding.{Later}
use Rattle.paged_lookup.proofs.band.last_page.Given as goal

abbrev pub invariant-loop-index : goal.invariant-loop-index
invariant-loop-index l = Later l.image l.first l.pages l.root.0 l.index
