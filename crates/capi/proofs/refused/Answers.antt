-- `capi::refused` meets its contract. Assumes nothing.
use mathlib.Core.Path.{ap, ◌∙◌}
use Prim.Native.Nat.{ℕ}
use lib.IntN.{pos, neg_ℤ}
use borrow.Author.Rules.{rules}
use Rattle.capi.proofs.Signed.{neg_fits, neg_is}
use Rattle.capi.proofs.refused.Goals as goal

pub overflow_sub-result : goal.overflow_sub-result
overflow_sub-result c = neg_fits c.number.result (search rules)

pub returns : goal.returns
returns c = neg_is c.number.result (search rules) ∙ ap (λ (n : ℕ). neg_ℤ (pos n)) c.number.ensures
