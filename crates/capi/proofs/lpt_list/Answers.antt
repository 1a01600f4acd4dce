-- `capi::lpt_list` meets its contract. Assumes nothing.
use mir.Syntax.{w64}
use mathlib.Core.Path.{ap, ◌∙◌}
use mir.Facts.{to_z-of_z}
use Rattle.nodes.proofs.Numbers.{bytes_of}
use Rattle.capi.proofs.Answers.{list_fits}
use Rattle.capi.specs.Encoding.{encoded}
use Rattle.format.specs.Answer.{buffer_after_listing, listing}
use borrow.Author.Rules.{sfits_of}
use Rattle.capi.proofs.lpt_list.Goals as goal

pub answer-requires : goal.answer-requires
answer-requires c = list_fits c.args.img.now (bytes_of _ (λ i. (c.type_inv.img i).fits)) _ _ _ c.list.ensures.0

pub returns : goal.returns
returns c =
    let r = c.rectangle_of.ensures in (
      to_z-of_z {w = w64} (sfits_of c.answer.type_inv) ∙ c.answer.ensures ∙ ap encoded (c.list.ensures.0 ∙ ap (λ r. listing c.args.img.now r c.args.keys.now) r),
      c.list.ensures.1 ∙ ap (λ r. buffer_after_listing c.args.img.now r c.args.keys.now) r,
    )
