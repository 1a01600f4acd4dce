-- `subtries::level::path_set` meets its contract. Assumes nothing.
use Prim.Native.Nat.{ℕ, ◌+◌, ◌-◌, ◌*◌, ◌%◌, ◌^◌}
use native.Mathlib.Nat.{mod-eq_of_lt, mul-le-mul, pow-le-pow_right}
use native.Mathlib.Omega.{arith}
use Rattle.subtries.specs.Subtrie.{path_set}
use Rattle.subtries.proofs.level.path_set.Goals as goal

pub returns : goal.returns
unfolding path_set
returns c =
    let k : ℕ = 14 - 2 * (4 * (c.args.one % 2) + 2 * (c.args.two % 2) + c.args.three % 2) in
    mod-eq_of_lt (omega (arith, mul-le-mul {n₁ = c.args.four} {m₁ = 2 ^ k} {n₂ = 3} {m₂ = 2 ^ 14} (omega arith) (pow-le-pow_right {n = 2} (omega arith) {i = k} {j = 14} (omega arith))))
