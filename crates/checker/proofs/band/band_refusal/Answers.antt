-- `checker::band::band_refusal` meets its contract. The loop's invariant: the pages passed got a yes throughout. Assumes nothing.
use Rattle.std.proofs.lemmas.Result.{err_from_is_err_and}
use Rattle.checker.proofs.Bands.{turn_start, turn_no, turn_next, turn_13, turn_end}
use Rattle.checker.proofs.band.band_refusal.Goals as goal

pub loop-i-init : goal.loop-i-init
loop-i-init c = turn_start _ _ _ _ _ c.requires c.page_count-pages.ensures.0 c.root_count-roots.ensures.0

pub returns-in_err-found : goal.returns-in_err-found
returns-in_err-found c =
    let p = err_from_is_err_and c.from_residual.result c.from_residual.ensures.1 in
    rw (p.1, p.2) (turn_no c.loop-i.invariant c.loop-i-test.true _ c.next_root-next.ensures _ c.in_err-found.ensures.first_no_is)

pub loop-i-preserved : goal.loop-i-preserved
loop-i-preserved c = turn_next c.loop-i.invariant c.loop-i-test.true _ c.next_root-next.ensures _ c.in_ok-found.ensures

pub returns-then-b-links_due : goal.returns-then-b-links_due
returns-then-b-links_due c = turn_13 c.loop-i.invariant c.loop-i-test.false _ c.links_due.ensures.0 c.if-b-links_due.true

pub returns : goal.returns
returns c = turn_end c.loop-i.invariant c.loop-i-test.false _ c.links_due.ensures.0 c.if-b-links_due.false
