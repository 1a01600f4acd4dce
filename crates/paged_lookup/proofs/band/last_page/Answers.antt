-- `paged_lookup::band::last_page` meets its contract. The loop's invariant: all later pages have a larger T. Assumes nothing.
use native.Mathlib.Omega.{arith}
use Rattle.paged_lookup.proofs.Finding.{later_start, later_here, later_next, later_end}
use Rattle.paged_lookup.proofs.band.last_page.Goals as goal

pub loop-index-init : goal.loop-index-init
loop-index-init c = later_start

pub returns-then-number-root : goal.returns-then-number-root
returns-then-number-root c = later_here c.loop-index.invariant c.loop-index-test.true c.number.ensures.0 c.if-number-root.true

pub loop-index-preserved : goal.loop-index-preserved
loop-index-preserved c = later_next c.loop-index.invariant c.loop-index-test.true c.number.ensures.0 (omega (arith, c.if-number-root.false))

pub returns : goal.returns
returns c = later_end c.loop-index.invariant (omega (arith, c.loop-index-test.false))
