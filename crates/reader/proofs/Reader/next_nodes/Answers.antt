-- `reader::Reader::next_nodes` meets its contract. Assumes nothing.
use native.Mathlib.Omega.{arith}
use Rattle.reader.proofs.Nodes.{nodes_less}
use Rattle.reader.proofs.Reader.next_nodes.Goals as goal

pub returns-then-n-le1 : goal.returns-then-n-le1
returns-then-n-le1 c = nodes_less c.one_at.ensures (omega arith)

pub returns-else-n-le1 : goal.returns-else-n-le1
returns-else-n-le1 c = nodes_less c.many_at.ensures (omega arith)
