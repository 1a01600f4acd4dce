-- `repair::judge::judge_band` meets its contract. Assumes nothing.
use native.Mathlib.Omega.{arith}
use Rattle.nodes.proofs.Numbers.{bytes_of}
use Rattle.repair.proofs.Judging.{judging_end, judging_many, judging_next, judging_none, judging_start}
use Rattle.repair.proofs.judge.judge_band.Goals as goal

pub page_count-i-end-requires : goal.page_count-i-end-requires
page_count-i-end-requires c = (c.requires.at.sized.long, c.requires.at.hi)

pub loop-i-init : goal.loop-i-init
loop-i-init c = judging_start (bytes_of c.args.image.now (λ i. (c.type_inv.image i).fits)) c.requires c.page_count-i-end.ensures.0

-- ---- the page that comes next

pub page_held-requires : goal.page_held-requires
page_held-requires c = let u = c.loop-i.invariant in (omega (arith, u.room, c.loop-i-test.true), omega (arith, u.nodes_few), u.per_few)

pub returns-in_err-held : goal.returns-in_err-held
returns-in_err-held c = rw c.from_residual.ensures (judging_none c.loop-i.invariant c.loop-i-test.true c.in_err-held.ensures)

-- ---- it is held

pub returns-then-links-gt4096 : goal.returns-then-links-gt4096
returns-then-links-gt4096 c = judging_many c.loop-i.invariant c.loop-i-test.true _ c.in_ok-held.ensures c.if-links-gt4096.true

pub loop-i-preserved : goal.loop-i-preserved
loop-i-preserved c =
    judging_next c.loop-i.invariant c.loop-i-test.true _ c.in_ok-held.ensures c.if-links-gt4096.false _ _ c.narrow.ensures c.narrow-in-loop-i.ensures

pub returns : goal.returns
returns c = judging_end c.loop-i.invariant c.loop-i-test.false
