-- `format::is_lift` meets its contract. Assumes nothing.
use Rattle.format.specs.Question.{is_lift}
use Rattle.format.proofs.is_lift.Goals as goal

pub returns : goal.returns
unfolding is_lift
returns c = c.one_to.ensures
