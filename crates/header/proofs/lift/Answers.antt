-- `header::lift` meets its contract. Assumes nothing.
use mathlib.Core.Path.{sym, ◌∙◌}
use native.Mathlib.Omega.{arith}
use Rattle.format.proofs.Checked.{lift-number, no_lift}
use Rattle.header.proofs.lift.Goals as goal

pub returns-then-version-eq1 : goal.returns-then-version-eq1
returns-then-version-eq1 c = (sym (no_lift _ (sym c.version.ensures.0 ∙ c.if-version-eq1.true)), omega arith)

pub returns : goal.returns
returns c = (c.number.ensures.0 ∙ sym (lift-number _ (λ f. c.if-version-eq1.false (c.version.ensures.0 ∙ f))), c.number.ensures.1)
