-- `capi::lpt_lookup8` meets its contract. Assumes nothing.
use mir.Syntax.{w64}
use mathlib.Core.Path.{ap, ◌∙◌}
use mir.Facts.{to_z-of_z}
use borrow.Author.Rules.{sfits_of}
use Rattle.capi.specs.Encoding.{encoded_lookup, lookup_buffer}
use Rattle.capi.proofs.lpt_lookup8.Goals as goal

pub returns : goal.returns
returns c =
    let e = c.lookup.ensures in
    (to_z-of_z {w = w64} (sfits_of c.looked_up.type_inv) ∙ c.looked_up.ensures.0 ∙ ap encoded_lookup e, c.looked_up.ensures.1 ∙ ap (λ o. lookup_buffer o c.args.out.now) e)
