-- `header::lift_right` meets its contract. Assumes nothing.
use mathlib.Core.Path.{◌∙◌}
use Rattle.header.proofs.Asked.{lift_1, lift_other}
use Rattle.header.proofs.lift_right.Goals as goal

pub returns-then-names_none : goal.returns-then-names_none
returns-then-names_none c = lift_1 _ _ c.version-names_none.ensures.0 (c.if-names_none.true)

pub returns : goal.returns
returns c = c.is_lift.ensures ∙ lift_other _ _ c.version-names_none.ensures.0 (c.if-names_none.false) _ c.lift.ensures.0
