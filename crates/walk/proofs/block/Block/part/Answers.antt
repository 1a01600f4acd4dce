-- `walk::block::Block::part` meets its contract. Assumes nothing.
use mathlib.Core.Path.{refl}
use native.Mathlib.Omega.{arith}
use Rattle.format.proofs.Keys.{holder_of_small, slot_of_small}
use Rattle.walk.proofs.Blocks.{part_holder, part_slot}
use Rattle.walk.proofs.block.Block.part.Goals as goal

pub overflow_mul-result-2 : goal.overflow_mul-result-2
overflow_mul-result-2 c = omega (arith, c.requires.0.holder_is, holder_of_small c.args.self.prefix)

pub overflow_add-result-2 : goal.overflow_add-result-2
overflow_add-result-2 c = omega (arith, c.requires.0.holder_is, holder_of_small c.args.self.prefix, c.requires.2)

pub overflow_add-result-3 : goal.overflow_add-result-3
overflow_add-result-3 c = omega (arith, c.requires.0.holder_is, holder_of_small c.args.self.prefix, c.requires.2)

pub overflow_mul-result-4 : goal.overflow_mul-result-4
overflow_mul-result-4 c = omega (arith, c.requires.0.slot_is, slot_of_small c.args.self.prefix)

pub overflow_add-result-4 : goal.overflow_add-result-4
overflow_add-result-4 c = omega (arith, c.requires.0.slot_is, slot_of_small c.args.self.prefix, c.requires.2)

pub overflow_add-result-5 : goal.overflow_add-result-5
overflow_add-result-5 c = omega (arith, c.requires.0.slot_is, slot_of_small c.args.self.prefix, c.requires.2)

pub returns : goal.returns
returns c =
    let x = c.args.self.prefix in
    let e = c.args.ending in (
      record {
        holder_is = omega (arith, c.requires.0.holder_is, part_holder c.args.self.prefix c.requires.1 c.args.ending c.requires.2);
        slot_is = omega (arith, c.requires.0.slot_is, part_slot c.args.self.prefix c.requires.1 c.args.ending c.requires.2);
      },
      refl,
    )
