-- `packing::count_band` meets its contract. The invariant is `Counting`, of the prefixes as they were before the first was replaced, and the root of the last read.
-- Assumes nothing.
use mathlib.Core.Path.{refl, sym, ◌∙◌}
use native.Mathlib.Omega.{arith}
use lib.ListN.{length}
use lib.Seq.{set-set, set-get_or}
use Rattle.std.proofs.lemmas.Bool.{eqb-true, eqb-false}
use Prim.Native.Nat.{◌+◌, ◌≤◌, ◌<◌}
use Rattle.packing.proofs.Counting.{count_none, count_start, count_same, count_next, count-done, joined_more}
use Rattle.packing.proofs.count_band.Goals as goal
use Rattle.packing.proofs.count_band.Goals.{then-root-y, else-root-y}

pub returns-then-is_empty : goal.returns-then-is_empty
returns-then-is_empty c = count_none _ (eqb-true _ _ (sym c.is_empty.ensures ∙ c.if-is_empty.true))

pub loop-i-init : goal.loop-i-init
loop-i-init c = (rw (set-set, set-get_or) (count_start _ c.requires (omega (arith, eqb-false _ _ (sym c.is_empty.ensures ∙ c.if-is_empty.false)))), refl)

pub loop-i-preserved : goal.loop-i-preserved
loop-i-preserved c =
    let inv = c.loop-i.invariant in
    let more : c.loop-i.i < length c.loop-i.keys = omega (arith, c.loop-i-test.true, c.loop-i.auto.keys) in
    elim c.if-root-y.branch [
      | then-root-y w ↦ rw (w.keys-is, w.root-is, w.roots-is, w.packing-is, w.size-is, w.more_nodes-size.ensures.0) (count_same _ _ _ _ _ _ _ inv.0 more (sym inv.1 ∙ w.if-root-y.true), w.if-root-y.true)
      | else-root-y w ↦ rw (w.keys-is, w.root-is, w.roots-is, w.packing-is, w.size-is, w.join-packing.ensures) (count_next _ _ _ _ _ _ _ inv.0 more (λ e. w.if-root-y.false (inv.1 ∙ e)), refl)
    ]

pub overflow_cast-result : goal.overflow_cast-result
overflow_cast-result c =
    let inv = c.loop-i.invariant.0 in
    let most : c.join-packing-2.result.pages ≤ c.loop-i.packing.pages + 1 = rw c.join-packing-2.ensures (joined_more _ _) in
    record { fits = omega (arith, most, inv.pages_few, inv.scan.begun, inv.scan.open_some, inv.scan.within, inv.few) }

pub returns : goal.returns
returns c = count-done _ _ _ _ _ _ _ _ _ (set-set _ 0 _ _ ∙ set-get_or _ 0 0) c.loop-i.invariant.0 (omega (arith, c.loop-i.auto.keys)) c.join-packing-2.ensures
