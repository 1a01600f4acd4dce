-- `repair::fill::fill_header` meets its contract. Assumes nothing.
use native.Mathlib.Omega.{arith}
use Rattle.repair.proofs.Filling.{filled-length, header_end_lem, header_next, header_room, header_start_lem}
use Rattle.repair.proofs.fill.fill_header.Goals as goal

pub loop-k-init : goal.loop-k-init
loop-k-init c = header_start_lem c.requires.0 c.requires.1

pub put-altered-requires : goal.put-altered-requires
put-altered-requires c = let u = c.loop-k.invariant in (omega (arith, u.ready.whole.long, c.loop-k-test.true), header_room u, u.noted _ (omega (arith, c.loop-k-test.true)))

pub loop-k-preserved : goal.loop-k-preserved
loop-k-preserved c =
    header_next c.loop-k.invariant (omega (arith, c.loop-k-test.true)) c.put-altered.ensures

pub shape_of-out : goal.shape_of-out
shape_of-out c = filled-length c.loop-k.invariant.filled

pub returns : goal.returns
returns c = header_end_lem c.loop-k.invariant (omega (arith, c.loop-k-test.false))
