-- `capi::lpt_admission_of` meets its contract. Assumes nothing.
use mir.Syntax.{w64}
use mathlib.Core.Path.{ap₂, ◌∙◌}
use Prim.Native.Nat.{ℕ}
use mir.Facts.{to_z-of_z}
use Rattle.capi.specs.Encoding.{encoded_admission}
use borrow.Author.Rules.{sfits_of}
use Rattle.capi.proofs.lpt_admission_of.Goals as goal

pub returns : goal.returns
returns c =
    to_z-of_z {w = w64} (sfits_of c.admission.type_inv) ∙ c.admission.ensures
    ∙ ap₂ (λ (holder slot : ℕ). encoded_admission (holder, slot)) c.unweave.ensures.0 c.unweave.ensures.1
