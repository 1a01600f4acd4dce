-- `image_writer::fill_band` meets its contract. The invariant is `Pages`. Assumes nothing.
use Rattle.image_writer.proofs.Band.{pages_start, run_room, page_room, move_room, pages_next, pages_end}
use Rattle.image_writer.proofs.fill_band.Goals as goal

pub loop-from-init : goal.loop-from-init
loop-from-init c = pages_start _ _ _ c.requires

pub page_run-run-requires : goal.page_run-run-requires
page_run-run-requires c = run_room _ _ _ _ _ _ _ _ c.loop-from.invariant c.loop-from-test.true

pub fill_page-next-requires : goal.fill_page-next-requires
fill_page-next-requires c = page_room _ _ _ _ _ _ _ _ c.loop-from.invariant c.loop-from-test.true _ c.page_run-run.ensures

pub move_down-requires : goal.move_down-requires
move_down-requires c = move_room _ _ _ _ _ _ _ _ c.loop-from.invariant c.loop-from-test.true _ c.page_run-run.ensures _ _ _ c.fill_page-next.ensures

pub loop-from-preserved : goal.loop-from-preserved
loop-from-preserved c = pages_next _ _ _ _ _ _ _ _ c.loop-from.invariant c.loop-from-test.true _ c.page_run-run.ensures _ _ _ c.fill_page-next.ensures _ c.move_down.ensures

pub returns : goal.returns
returns c = pages_end _ _ _ _ _ _ _ _ c.loop-from.invariant c.loop-from-test.false
