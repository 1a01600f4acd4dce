-- `header::version_known` meets its contract. Assumes nothing.
use mathlib.Core.Path.{sym, ap, ◌∙◌}
use Prim.Native.Nat.{ℕ}
use lib.Dec.{eqb}
use Rattle.header.proofs.Asked.{known_1, known_other}
use Rattle.header.proofs.version_known.Goals as goal

pub returns-then-version-eq1 : goal.returns-then-version-eq1
returns-then-version-eq1 c = known_1 _ _ c.version.ensures.0 c.if-version-eq1.true

pub returns : goal.returns
returns c = ap (λ (v : ℕ). eqb v 2) c.version-2.ensures.0 ∙ sym (known_other _ _ c.version.ensures.0 c.if-version-eq1.false)
