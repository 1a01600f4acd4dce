-- `capi::lpt_withdraw` meets its contract. Assumes nothing.
use mir.Syntax.{w64}
use mathlib.Core.Path.{◌∙◌}
use mir.Facts.{to_z-of_z}
use Rattle.nodes.proofs.Numbers.{bytes_of}
use native.Mathlib.Omega.{arith}
use Rattle.capi.proofs.Answers.{fits}
use Rattle.capi.proofs.Length.{edit_to_c, edit_within}
use borrow.Author.Rules.{rules, sfits_of}
use Rattle.capi.proofs.lpt_withdraw.Goals as goal

pub answer-requires : goal.answer-requires
answer-requires c =
    fits 24640 (omega arith) _ (edit_within _ _ _ _ _ _ _ (bytes_of c.args.img.now (λ i. (c.type_inv.img i).fits)) (search rules, search rules) _ _ _ c.withdraw.ensures)

pub returns : goal.returns
returns c = edit_to_c _ _ _ _ _ _ _ _ _ _ _ c.withdraw.ensures (to_z-of_z {w = w64} (sfits_of c.answer.type_inv) ∙ c.answer.ensures)
