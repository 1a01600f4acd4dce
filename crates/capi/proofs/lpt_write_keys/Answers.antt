-- `capi::lpt_write_keys` meets its contract. Assumes nothing.
use mir.Syntax.{w64}
use mathlib.Core.Path.{ap, ◌∙◌}
use Prim.Native.Nat.{ℕ, ◌^◌, ◌<◌}
use mir.Facts.{to_z-of_z}
use Rattle.format.proofs.Lists.{all_of}
use Rattle.capi.specs.Encoding.{encoded}
use native.Mathlib.Omega.{arith}
use Rattle.capi.proofs.Answers.{fits}
use Rattle.capi.proofs.Length.{keys_within}
use borrow.Author.Rules.{sfits_of}
use Rattle.capi.proofs.lpt_write_keys.Goals as goal

pub answer-requires : goal.answer-requires
answer-requires c =
    fits 24640 (omega arith) _ (keys_within _ _ (all_of (λ (key : ℕ). key < 2 ^ 32) c.args.keys.now 0 (λ i. (c.type_inv.keys i).fits)) _ _ _ c.write_keys.ensures)

pub returns : goal.returns
returns c =
    let w = c.write_keys in
    (to_z-of_z {w = w64} (sfits_of c.answer.type_inv) ∙ c.answer.ensures ∙ ap encoded w.ensures.returned, w.ensures.bytes)
