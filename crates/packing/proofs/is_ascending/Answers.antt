-- `packing::is_ascending` meets its contract. Assumes nothing.
use mathlib.Core.Path.{◌∙◌}
use native.Mathlib.Omega.{arith}
use Rattle.packing.proofs.Ascending.{tested_next, tested_end}
use Rattle.packing.proofs.is_ascending.Goals as goal

pub loop-pair-preserved : goal.loop-pair-preserved
loop-pair-preserved c =
    let inv = c.loop-pair.invariant in
    let turn = c.in-Some.ensures.steps in
    record {
      pairs = turn.0 ∙ inv.pairs;
      same = tested_next _ _ _ inv.same _ _ (omega (arith, inv.pairs, turn.1.0)) (rw inv.pairs at turn.1.1) turn.1.2;
    }

pub returns : goal.returns
returns c = tested_end _ _ _ c.loop-pair.invariant.same (omega (arith, c.loop-pair.invariant.pairs, c.in-None.ensures.steps.1.0))
