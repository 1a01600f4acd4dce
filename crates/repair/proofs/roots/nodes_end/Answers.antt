-- `repair::roots::nodes_end` meets its contract. Assumes nothing.
use mathlib.Core.Path.{refl}
use native.Mathlib.Omega.{arith}
use Rattle.repair.proofs.LastNode.{emptied_all, emptied_next, emptied_start, ends_first, ends_here, some_there}
use Rattle.repair.proofs.roots.nodes_end.Goals as goal

pub loop-j-init : goal.loop-j-init
loop-j-init c = emptied_start _

pub returns-then-words-j-ne0 : goal.returns-then-words-j-ne0
returns-then-words-j-ne0 c = ends_here c.loop-j.invariant _ c.empty_after.ensures c.if-words-j-ne0.true (omega (arith, c.empty_after.ensures.few, c.loop-j-test.true))

pub loop-j-preserved : goal.loop-j-preserved
loop-j-preserved c = emptied_next c.loop-j.invariant (omega (arith, c.loop-j-test.true)) c.if-words-j-ne0.false

pub returns-then-empty-gt16 : goal.returns-then-empty-gt16
returns-then-empty-gt16 c = ends_first (emptied_all c.loop-j.invariant (omega (arith, c.loop-j-test.false))) _ c.empty_after-empty.ensures refl c.if-empty-gt16.true

pub returns : goal.returns
returns c =
    let u = emptied_all c.loop-j.invariant (omega (arith, c.loop-j-test.false)) in
    ends_here u _ c.empty_after-empty.ensures (some_there u _ c.empty_after-empty.ensures c.if-empty-gt16.false) c.if-empty-gt16.false
