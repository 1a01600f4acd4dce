-- `subtries::level::node` meets its contract. Assumes nothing.
use mathlib.Core.Path.{◌∙◌}
use native.Mathlib.Omega.{arith}
use Rattle.reader.proofs.Nodes.{nodes_top}
use Rattle.subtries.proofs.level.node.Goals as goal

pub returns : goal.returns
returns c = (c.top.ensures.0 ∙ nodes_top c.read_nodes.ensures (omega arith) c.requires.1, c.top.ensures.1)
