-- `repair::fill::put` meets its contract. Assumes nothing.
use mathlib.Core.Path.{sym, ◌∙◌}
use native.Mathlib.Omega.{arith}
use Rattle.repair.proofs.Filling.{altered_other, altered_same, put_filled}
use Rattle.repair.proofs.fill.put.Goals as goal

-- ---- the image has the number already

-- nothing is altered
pub returns-then-number-from : goal.returns-then-number-from
returns-then-number-from c =
    let p = c.requires in
    put_filled _ _ _ _ _ 0 (omega (arith, p.0, p.1)) c.put_number.ensures (omega arith) p.2
    (altered_same _ _ (sym c.number.ensures.0 ∙ c.if-number-from.true ∙ c.from.ensures ∙ p.2)) (omega arith)

-- ---- it has another

-- that is altered
pub returns : goal.returns
returns c =
    let p = c.requires in
    put_filled _ _ _ _ _ 1 (omega (arith, p.0, p.1)) c.put_number.ensures (omega arith) p.2
    (altered_other _ _ (λ d. c.if-number-from.false (c.number.ensures.0 ∙ d ∙ sym p.2 ∙ sym c.from.ensures))) (omega arith)
