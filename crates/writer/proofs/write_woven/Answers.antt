-- `writer::write_woven` meets its contract. Assumes nothing.
use mathlib.Core.Path.{sym, ◌∙◌}
use native.Mathlib.Omega.{arith}
use Rattle.std.proofs.lemmas.Result.{err_from_is_err_and}
use Rattle.writer.proofs.Job.{loaded_refused, again_room, again_written}
use Rattle.writer.proofs.Weaving.{keys_length, woven_loaded, woven_again}
use Rattle.writer.proofs.write_woven.Goals as goal

pub returns-in_err-plan : goal.returns-in_err-plan
returns-in_err-plan c =
    let size = keys_length c.args.list.now in
    let p = err_from_is_err_and c.from_residual.result c.from_residual.ensures.1 in
    let no = c.in_err-plan.ensures in
    rw (p.1, p.2) (
      loaded_refused _ _ _ _ (c.requires.0 ∙ sym size) (omega (arith, size)) (woven_loaded c.args.list.now c.args.places.now _ c.weave_first.ensures) _ _ no.0 no.1.0,
      omega (arith, c.weave_first.auto.keys, c.plan_keys.auto.keys),
    )

pub fill_image-requires : goal.fill_image-requires
fill_image-requires c =
    let size = keys_length c.args.list.now in
    again_room _ _ _ _ (c.requires.0 ∙ sym size) (omega (arith, size)) (woven_loaded c.args.list.now c.args.places.now _ c.weave_first.ensures) _ _ _ _ c.in_ok-plan.ensures c.used_up.ensures (woven_again c.used_up.result c.args.list.now c.plan_keys.new.keys _ c.weave_first-2.ensures)

pub returns : goal.returns
returns c =
    let size = keys_length c.args.list.now in (
      again_written _ _ _ _ (c.requires.0 ∙ sym size) (omega (arith, size)) (woven_loaded c.args.list.now c.args.places.now _ c.weave_first.ensures) _ _ _ _ c.in_ok-plan.ensures c.used_up.ensures (woven_again c.used_up.result c.args.list.now c.plan_keys.new.keys _ c.weave_first-2.ensures) _ _ _ c.fill_image.ensures.0,
      omega (arith, c.fill_image.ensures.1, c.weave_first-2.auto.keys, c.plan_keys.auto.keys, c.weave_first.auto.keys),
    )
