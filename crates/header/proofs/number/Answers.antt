-- `header::number` meets its contract. Assumes nothing.
use native.Mathlib.Omega.{arith}
use Rattle.format.specs.Page.{number_at}
use Rattle.header.proofs.number.Goals as goal

pub returns : goal.returns
unfolding number_at
returns c = (omega arith, omega arith)
