-- `climb::select::sums` meets its contract. Assumes nothing.
use Prim.Native.Nat.{◌/◌, ◌^◌}
use native.Mathlib.Omega.{arith}
use lib.Bits.{and_le_r}
use Rattle.climb.proofs.select.sums.Goals as goal

pub overflow_add-result : goal.overflow_add-result
overflow_add-result c =
    let a = c.args in
    record { fits = omega (arith, c.requires.1, and_le_r a.x a.lower, and_le_r (a.x / 2 ^ a.width) a.lower) }
