-- `repair::fill::fill_pages` meets its contract. Assumes nothing.
use mathlib.Core.Path.{refl}
use native.Mathlib.Omega.{arith}
use Rattle.repair.proofs.Filling.{filled-length, page_here, pages_end, pages_next, pages_room, pages_start}
use Rattle.repair.proofs.fill.fill_pages.Goals as goal

pub loop-p-init : goal.loop-p-init
loop-p-init c = pages_start c.requires.0 c.requires.1 refl

pub put-altered-requires : goal.put-altered-requires
put-altered-requires c =
    let u = c.loop-p.invariant in
    (omega (arith, page_here u c.loop-p-test.true), pages_room u, u.noted.t_noted _ u.some c.loop-p-test.true)

pub put-altered-requires-in-loop-p : goal.put-altered-requires-in-loop-p
put-altered-requires-in-loop-p c =
    let u = c.loop-p.invariant in
    (omega (arith, page_here u c.loop-p-test.true), omega (arith, filled-length c.put-altered.ensures, pages_room u), u.noted.b_noted _ u.some c.loop-p-test.true)

pub loop-p-preserved : goal.loop-p-preserved
loop-p-preserved c = pages_next c.loop-p.invariant c.loop-p-test.true c.put-altered.ensures c.put-altered-in-loop-p.ensures

pub shape_of-out : goal.shape_of-out
shape_of-out c = filled-length c.loop-p.invariant.filled

pub returns : goal.returns
returns c = pages_end c.loop-p.invariant c.loop-p-test.false
