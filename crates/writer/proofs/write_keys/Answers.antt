-- `writer::write_keys` meets its contract. Assumes nothing.
use mathlib.Core.Path.{refl}
use lib.Dec.{leb}
use Rattle.std.proofs.lemmas.Result.{err_from_is_err_and}
use Rattle.format.specs.Question.{is_lift}
use Rattle.format.specs.Writer.{either_question, lift_question}
use Rattle.format.proofs.Lists.{and_right}
use Rattle.writer.proofs.Job.{no_35, asked_35}
use Rattle.writer.proofs.write_keys.Goals as goal

pub returns-in_err-asked_lift : goal.returns-in_err-asked_lift
unfolding lift_question
returns-in_err-asked_lift c =
    let p = err_from_is_err_and c.from_residual.result c.from_residual.ensures.1 in
    let no = c.in_err-asked_lift.ensures in
    rw (p.1, p.2, no.0) (no_35 _ _ _ _ refl no.1)

pub returns : goal.returns
unfolding lift_question either_question is_lift
returns c =
    let lift = c.args.lift in
    let yes = c.in_ok-asked_lift.ensures.1 in
    asked_35 _ _ _ _ _ _ _ (and_right (leb 1 lift) (leb lift 999) yes) yes c.write_either.ensures
