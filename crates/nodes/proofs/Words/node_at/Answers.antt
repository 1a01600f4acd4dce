-- `nodes::Words::node_at` meets its contract. Assumes nothing.
use Rattle.std.proofs.Common.{arith}
use Rattle.nodes.specs.Words.{node_in}
use Rattle.nodes.proofs.Words.node_at.Goals as goal

pub returns : goal.returns
unfolding node_in
returns c = (rw (c.place_of-j.ensures.0, c.place_of-j.ensures.1), omega arith)
