-- `checker::page::third_level` meets its contract. Assumes nothing.
use mathlib.Core.Path.{ap}
use Prim.Native.Nat.{◌+◌}
use native.Mathlib.Omega.{arith}
use Rattle.checker.proofs.Shapes.{levels}
use Rattle.checker.proofs.page.third_level.Goals as goal

pub returns : goal.returns
returns c =
    let e = c.on_bits_before.ensures.0 in
    (ap (c.args.roots +◌) e, omega (arith, (levels c.requires.0 c.requires.1 c.requires.2).before.few))
