-- `paged_lookup::page::bit_of` meets its contract. Assumes nothing.
use native.Mathlib.Omega.{arith}
use Rattle.paged_lookup.proofs.Sides.{bit_first, bit_second}
use Rattle.paged_lookup.proofs.page.bit_of.Goals as goal

pub returns-then-side-gt0 : goal.returns-then-side-gt0
returns-then-side-gt0 c = let a = c.args in bit_second a.node a.side (λ z. omega (arith, c.if-side-gt0.true, z))

pub returns : goal.returns
returns c = let a = c.args in bit_first a.node a.side (omega (arith, c.if-side-gt0.false))
