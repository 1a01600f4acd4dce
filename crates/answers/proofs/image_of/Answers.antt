use mathlib.Core.Path.{◌∙◌, ap, sym}
use Rattle.format.specs.Refusal.{outcome_of}
use Rattle.answers.proofs.Images.{image_first}
use Rattle.answers.proofs.image_of.Goals as goal

-- src/lib.rt:13:1
pub returns : goal.returns
returns c = c.truncate.ensures.items ∙ image_first _ _ _ _ _ _ _ _ (ap outcome_of (sym c.in-Ok.is) ∙ c.write_either.ensures.returned) c.write_either.ensures.bytes c.deref_mut.ensures.len
