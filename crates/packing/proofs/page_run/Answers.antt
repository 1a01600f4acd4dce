-- `packing::page_run` meets its contract. The invariant is `Scan`. Assumes nothing.
use mathlib.Core.Path.{◌≡◌}
use native.Mathlib.Omega.{arith}
use lib.ListN.{length}
use Rattle.format.proofs.Members.{of_ascending}
use Rattle.packing.proofs.Scan.{page_first, scan_start, scan_same, scan_next, scan_ends, scan_last}
use Rattle.packing.proofs.page_run.Goals as goal
use Rattle.packing.proofs.page_run.Goals.{then-x-y, else-x-y+else-used-size-gt240}

pub loop-i-init : goal.loop-i-init
loop-i-init c = scan_start _ _ (of_ascending _ c.requires.0.ordered) c.requires.1

pub returns-then-used-size-gt240 : goal.returns-then-used-size-gt240
returns-then-used-size-gt240 c = page_first _ _ _ (scan_ends _ _ _ _ _ _ c.loop-i.invariant (λ h. c.if-x-y.false) c.if-used-size-gt240.true)

pub loop-i-preserved : goal.loop-i-preserved
loop-i-preserved c =
    let inv = c.loop-i.invariant in
    let more = c.loop-i-test.true in
    elim c.if-x-y.branch [
      | then-x-y w ↦ rw (w.used-is, w.size-is, w.start-is, w.more_nodes-size.ensures.0) (scan_same _ _ _ _ _ _ inv more w.if-x-y.true)
      | else-x-y+else-used-size-gt240 w ↦ rw (w.used-is, w.size-is, w.start-is) (scan_next _ _ _ _ _ _ inv more w.if-x-y.false w.if-used-size-gt240.false)
    ]

pub returns-then-used-size-gt240-2 : goal.returns-then-used-size-gt240-2
returns-then-used-size-gt240-2 c = page_first _ _ _ (scan_ends _ _ _ _ _ _ c.loop-i.invariant (λ h. absurd (omega arith)) c.if-used-size-gt240-2.true)

pub returns-else-used-size-gt240-2 : goal.returns-else-used-size-gt240-2
returns-else-used-size-gt240-2 c =
    let all : length c.args.keys.now ≡ c.loop-i.i = omega (arith, c.loop-i.invariant.within) in
    rw all (page_first _ _ _ (scan_last _ _ _ _ _ _ c.loop-i.invariant c.loop-i-test.false c.if-used-size-gt240-2.false))
