-- `zorder::gather_four` meets its contract. Assumes nothing.
use Prim.Native.Nat.{◌/◌}
use mathlib.Core.Path.{◌≡◌}
use native.Mathlib.Omega.{arith}
use Rattle.format.specs.Key.{gather}
use Rattle.zorder.proofs.gather_four.Goals as goal

pub returns : goal.returns
unfolding gather
returns c =
    let x = c.args.x in
    let third : x / 4 / 4 ≡ x / 16 = omega arith in
    let fourth : x / 16 / 4 ≡ x / 64 = omega arith in
    (rw (third, fourth) (omega arith), omega arith)
