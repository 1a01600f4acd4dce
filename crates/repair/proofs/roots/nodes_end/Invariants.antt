-- `repair::roots::nodes_end` meets its contract. The loop's invariant: the words passed have no node. Assumes nothing.
use Prim.Native.Nat.{◌-◌}
use Rattle.repair.proofs.LastNode.{Emptied}
use Rattle.repair.proofs.roots.nodes_end.Given as goal

abbrev pub invariant-loop-j : goal.invariant-loop-j
invariant-loop-j l = Emptied l.words.word (l.j - 1)
