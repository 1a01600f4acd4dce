-- `paged_lookup::child::step_back` meets its contract. Assumes nothing.
use Prim.Native.Nat.{◌-◌, ◌%◌}
use native.Mathlib.Omega.{arith}
use Rattle.paged_lookup.proofs.Sides.{counted_small}
use Rattle.paged_lookup.proofs.Children.{back_is}
use Rattle.paged_lookup.proofs.child.step_back.Goals as goal

-- the second bit, where it counts
pub overflow_mul-result : goal.overflow_mul-result
overflow_mul-result c = omega (arith, counted_small (1 - c.args.side) (c.args.node % 2) (omega arith) (omega arith))

pub returns : goal.returns
returns c = (back_is c.args.node c.args.side c.requires, counted_small (1 - c.args.side) (c.args.node % 2) (omega arith) (omega arith))
