-- `subtries::level::on_bits` meets its contract. Assumes nothing.
use native.Mathlib.Omega.{arith}
use Rattle.subtries.proofs.OnBits.{ones_node}
use Rattle.subtries.proofs.level.on_bits.Goals as goal

pub returns : goal.returns
returns c = (ones_node c.args.node c.requires, omega arith)
