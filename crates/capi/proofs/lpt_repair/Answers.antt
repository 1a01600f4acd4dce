-- `capi::lpt_repair` meets its contract. Assumes nothing.
use mir.Syntax.{w64}
use mathlib.Core.Path.{ap, ◌∙◌}
use mir.Facts.{to_z-of_z}
use native.Mathlib.Omega.{arith}
use Rattle.capi.proofs.Answers.{repair_fits}
use Rattle.capi.specs.Encoding.{encoded}
use borrow.Author.Rules.{sfits_of}
use Rattle.capi.proofs.lpt_repair.Goals as goal

-- a repair alters at most nine numbers and two of each page,
-- and C gets how many as it is
pub answer-requires : goal.answer-requires
answer-requires c = repair_fits c.args.img.now c.args.out.now (omega (arith, c.well_formed.0.0)) _ c.repair.ensures.0

pub returns : goal.returns
returns c = (to_z-of_z {w = w64} (sfits_of c.answer.type_inv) ∙ c.answer.ensures ∙ ap encoded c.repair.ensures.0, c.repair.ensures.1)
