-- `writer::write` meets its contract. Assumes nothing.
use mathlib.Core.Path.{refl}
use native.Mathlib.Omega.{arith}
use Rattle.std.proofs.lemmas.Result.{err_from_is_err_and}
use Rattle.format.specs.Writer.{lift_question}
use Rattle.writer.specs.List.{yes_to_35, keys_in}
use Rattle.writer.proofs.Job.{no_35, asked_35, too_many}
use Rattle.writer.proofs.Weaving.{keys_length, in_pairs}
use Rattle.writer.proofs.write.Goals as goal

pub returns-in_err-lift : goal.returns-in_err-lift
unfolding lift_question
returns-in_err-lift c =
    let p = err_from_is_err_and c.from_residual.result c.from_residual.ensures.1 in
    let no = c.in_err-lift.ensures in
    rw (p.1, p.2, no.0) (in_pairs _ c.args.list.now _ _ _ (no_35 _ _ _ _ refl no.1))

pub returns-then-list-gt4096 : goal.returns-then-list-gt4096
unfolding lift_question
returns-then-list-gt4096 c = in_pairs _ c.args.list.now _ _ _ (asked_35 yes_to_35 _ _ _ _ _ _ refl c.in_ok-lift.ensures.1 (too_many _ (keys_in c.args.list.now) _ (omega (arith, keys_length c.args.list.now))))

pub returns : goal.returns
unfolding lift_question
returns c = in_pairs _ c.args.list.now _ _ _ (asked_35 yes_to_35 _ _ _ _ _ _ refl c.in_ok-lift.ensures.1 (rw c.in_ok-lift.ensures.0 at c.write_woven.ensures.0))
