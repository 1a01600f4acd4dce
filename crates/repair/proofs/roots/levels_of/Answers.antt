-- `repair::roots::levels_of` meets its contract. Assumes nothing.
use native.Mathlib.Omega.{arith}
use Rattle.repair.proofs.Seeking.{fourth_few, levels_past, levels_within}
use Rattle.repair.proofs.roots.levels_of.Goals as goal

pub overflow_add-end : goal.overflow_add-end
overflow_add-end c = let p = c.requires in omega (arith, c.fourth_level-fourth.ensures, fourth_few p.0 p.1 p.2)

pub returns-then-fourth-le240 : goal.returns-then-fourth-le240
returns-then-fourth-le240 c =
    let p = c.requires in
    levels_within p.0 p.1 p.2 _ _ c.third_level-third.ensures.0 c.fourth_level-fourth.ensures c.if-fourth-le240.true _ c.on_bits_before.ensures.0

pub returns-else-fourth-le240 : goal.returns-else-fourth-le240
returns-else-fourth-le240 c =
    let p = c.requires in
    levels_past p.0 p.1 p.2 _ _ c.third_level-third.ensures.0 c.fourth_level-fourth.ensures c.if-fourth-le240.false
