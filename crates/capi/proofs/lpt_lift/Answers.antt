-- `capi::lpt_lift` meets its contract. Assumes nothing.
use mir.Syntax.{w64}
use mathlib.Core.Path.{ap, ◌∙◌}
use mir.Facts.{to_z-of_z}
use Rattle.capi.proofs.Answers.{lift_fits}
use Rattle.capi.specs.Encoding.{encoded}
use borrow.Author.Rules.{sfits_of}
use Rattle.capi.proofs.lpt_lift.Goals as goal

-- the lift is at most 999,
-- and C gets it as it is
pub answer-requires : goal.answer-requires
answer-requires c = lift_fits _ _ c.lift.ensures

pub returns : goal.returns
returns c = to_z-of_z {w = w64} (sfits_of c.answer.type_inv) ∙ c.answer.ensures ∙ ap encoded c.lift.ensures
