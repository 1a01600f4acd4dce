-- `repair::roots::empty_after` meets its contract. Assumes nothing.
use native.Mathlib.Omega.{arith}
use Rattle.repair.proofs.LastNode.{empty_after}
use Rattle.repair.proofs.roots.empty_after.Goals as goal

pub returns : goal.returns
returns c = empty_after c.args.w (omega arith)
