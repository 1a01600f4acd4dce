-- `zorder::gather_word` meets its contract: sixteen bits in four parts. Assumes nothing.
use Prim.Native.Nat.{ℕ, ◌+◌, ◌*◌, ◌/◌}
use native.Mathlib.Omega.{arith}
use mathlib.Core.Path.{◌≡◌}
use Rattle.format.specs.Key.{gather}
use Rattle.format.proofs.Keys.{gather-join}
use Rattle.zorder.proofs.gather_word.Goals as goal

-- two parts of eight bits, each of two parts of four
parts : (x : ℕ) → gather 4 x + 16 * gather 4 (x / 256) + 256 * (gather 4 (x / 65536) + 16 * gather 4 (x / 16777216)) ≡ gather 16 x
parts x =
    let quarter : x / 65536 / 256 ≡ x / 16777216 = omega arith in
    let low = gather-join 4 4 x in
    let high = gather-join 4 4 (x / 65536) in
    let whole = gather-join 8 8 x in
    rw (← quarter) (omega arith)

pub returns : goal.returns
returns c = omega (arith, parts c.args.x)
