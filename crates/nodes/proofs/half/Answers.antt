-- `nodes::half` meets its contract. Assumes nothing.
use native.Mathlib.Omega.{arith}
use Rattle.nodes.specs.Words.{half_at}
use Rattle.nodes.proofs.half.Goals as goal

pub returns : goal.returns
unfolding half_at
returns c = omega (arith, c.from_be_bytes.ensures)
