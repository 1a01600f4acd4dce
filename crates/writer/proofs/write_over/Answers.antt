-- `writer::write_over` meets its contract. Assumes nothing.
use native.Mathlib.Omega.{arith}
use Rattle.std.proofs.lemmas.Result.{err_from_is_err_and}
use Rattle.writer.proofs.Job.{loaded_refused, again_room, again_written}
use Rattle.writer.proofs.write_over.Goals as goal

pub returns-in_err-plan : goal.returns-in_err-plan
returns-in_err-plan c =
    let p = err_from_is_err_and c.from_residual.result c.from_residual.ensures.1 in
    let no = c.in_err-plan.ensures in
    rw (p.1, p.2) (loaded_refused _ _ _ _ c.requires.0 c.requires.1 c.load.ensures _ _ no.0 no.1.0, omega (arith, c.load.auto.places, c.plan_keys.auto.keys))

pub fill_image-requires : goal.fill_image-requires
fill_image-requires c = again_room _ _ _ _ c.requires.0 c.requires.1 c.load.ensures _ _ _ _ c.in_ok-plan.ensures c.used_up.ensures c.load-2.ensures

pub returns : goal.returns
returns c = (
  again_written _ _ _ _ c.requires.0 c.requires.1 c.load.ensures _ _ _ _ c.in_ok-plan.ensures c.used_up.ensures c.load-2.ensures _ _ _ c.fill_image.ensures.0,
  omega (arith, c.fill_image.ensures.1, c.load-2.auto.places, c.plan_keys.auto.keys, c.load.auto.places),
)
