-- `capi::lpt_write` meets its contract. Assumes nothing.
use mathlib.Core.Path.{◌∙◌}
use mir.Syntax.{w64}
use mir.Facts.{to_z-of_z}
use borrow.Author.Rules.{sfits_of}
use native.Mathlib.Omega.{arith}
use Rattle.capi.proofs.Answers.{fits}
use Rattle.capi.proofs.Length.{to_c, within}
use Rattle.capi.proofs.lpt_write.Goals as goal

pub answer-requires : goal.answer-requires
answer-requires c = fits 24640 (omega arith) _ (within _ _ _ _ _ c.write.ensures)

pub returns : goal.returns
returns c = to_c _ _ _ _ _ _ c.write.ensures (to_z-of_z {w = w64} (sfits_of c.answer.type_inv) ∙ c.answer.ensures)
