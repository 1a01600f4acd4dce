-- `walk::block::Block::place_in` meets its contract. Assumes nothing.
use native.Mathlib.Omega.{arith}
use Rattle.walk.proofs.Placing.{one_some, holder_fits, slot_fits, apart_by_holder, further_out}
use Rattle.walk.proofs.block.Block.place_in.Goals as goal

pub overflow_sub-more : goal.overflow_sub-more
overflow_sub-more c = let p = c.requires in one_some p.0

pub overflow_add-holder : goal.overflow_add-holder
overflow_add-holder c = let p = c.requires in omega (arith, holder_fits p.0 p.1 p.2)

pub overflow_add-slot : goal.overflow_add-slot
overflow_add-slot c = let p = c.requires in omega (arith, slot_fits p.0 p.1 p.2)

pub returns-in-Apart : goal.returns-in-Apart
returns-in-Apart c = let p = c.requires in apart_by_holder p.0 p.1 p.2 c.args.rectangle c.range_place.ensures c.in-Apart.is

pub returns-in_default : goal.returns-in_default
returns-in_default c =
    let p = c.requires in
    rw c.min.ensures (further_out p.0 p.1 p.2 c.args.rectangle _ _ c.range_place.ensures c.range_place-in_default.ensures)
