-- `writer::write_either` meets its contract. Assumes nothing.
use mathlib.Core.Path.{refl}
use native.Mathlib.Omega.{arith}
use borrow.Author.Tests.{le-leb, lt-leb}
use Rattle.format.specs.Writer.{either_question}
use Rattle.writer.specs.List.{yes_to_35}
use Rattle.writer.proofs.Job.{no_35, asked_35, too_many}
use Rattle.writer.proofs.write_either.Goals as goal

pub returns-then-lift-gt999 : goal.returns-then-lift-gt999
unfolding either_question
returns-then-lift-gt999 c = no_35 _ _ _ _ refl (lt-leb c.args.lift 999 (omega arith))

pub returns-then-keys-gt4096 : goal.returns-then-keys-gt4096
unfolding either_question
returns-then-keys-gt4096 c = asked_35 yes_to_35 _ _ _ _ _ _ refl (le-leb c.args.lift 999 (omega arith)) (too_many _ _ _ (omega arith))

pub overflow_cast-lift : goal.overflow_cast-lift
overflow_cast-lift c = omega arith

pub returns : goal.returns
unfolding either_question
returns c = asked_35 yes_to_35 _ _ _ _ _ _ refl (le-leb c.args.lift 999 (omega arith)) c.write_over.ensures.0
