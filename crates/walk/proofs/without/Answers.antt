-- `walk::without` meets its contract. Assumes nothing.
use mathlib.Core.Path.{ap}
use Prim.Native.Nat.{◌-◌}
use native.Mathlib.Omega.{arith}
use Rattle.walk.proofs.Endings.{bit_of_ending}
use Rattle.walk.proofs.without.Goals as goal

pub overflow_sub-result : goal.overflow_sub-result
overflow_sub-result c = omega (arith, bit_of_ending c.args.ending c.requires.small, c.requires.on)

pub returns : goal.returns
returns c = ap (c.args.set -◌) (bit_of_ending c.args.ending c.requires.small)
