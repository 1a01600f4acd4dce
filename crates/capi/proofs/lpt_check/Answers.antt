-- `capi::lpt_check` meets its contract. Assumes nothing.
use mir.Syntax.{w64}
use mathlib.Core.Path.{ap, ◌∙◌}
use mir.Facts.{to_z-of_z}
use Rattle.capi.proofs.Answers.{check_fits}
use Rattle.capi.specs.Encoding.{encoded}
use borrow.Author.Rules.{sfits_of}
use Rattle.capi.proofs.lpt_check.Goals as goal

-- the key count is at most 4,096,
-- and C gets it as it is
pub answer-requires : goal.answer-requires
answer-requires c = check_fits _ _ c.check.ensures

pub returns : goal.returns
returns c = to_z-of_z {w = w64} (sfits_of c.answer.type_inv) ∙ c.answer.ensures ∙ ap encoded c.check.ensures
