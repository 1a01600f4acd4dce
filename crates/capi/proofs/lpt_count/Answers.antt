-- `capi::lpt_count` meets its contract. Assumes nothing.
use mir.Syntax.{w64}
use mathlib.Core.Path.{ap, ◌∙◌}
use mir.Facts.{to_z-of_z}
use Rattle.nodes.proofs.Numbers.{bytes_of}
use Rattle.capi.proofs.Answers.{count_fits}
use Rattle.capi.specs.Encoding.{encoded}
use Rattle.format.specs.Answer.{count}
use borrow.Author.Rules.{sfits_of}
use Rattle.capi.proofs.lpt_count.Goals as goal

pub answer-requires : goal.answer-requires
answer-requires c = count_fits c.args.img.now (bytes_of _ (λ i. (c.type_inv.img i).fits)) _ _ c.count.ensures

pub returns : goal.returns
returns c =
    to_z-of_z {w = w64} (sfits_of c.answer.type_inv) ∙ c.answer.ensures ∙ ap encoded (c.count.ensures ∙ ap (count c.args.img.now) c.rectangle_of.ensures)
