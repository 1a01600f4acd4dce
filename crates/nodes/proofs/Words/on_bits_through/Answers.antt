-- `nodes::Words::on_bits_through` meets its contract: the on bits before the node's word, and those of the word through the node. Assumes nothing.
use mathlib.Core.Path.{ap₂, ◌∙◌}
use Prim.Native.Nat.{◌+◌}
use native.Mathlib.Omega.{arith}
use Rattle.nodes.specs.Words.{ones_through}
use Rattle.nodes.proofs.Words.on_bits_through.Goals as goal

pub returns : goal.returns
unfolding ones_through
returns c = (ap₂ ◌+◌ c.from.ensures c.ones_in.ensures.0 ∙ rw (c.place_of-j.ensures.0, c.place_of-j.ensures.1), omega arith)
