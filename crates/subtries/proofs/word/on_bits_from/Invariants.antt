-- `subtries::word::on_bits_from` meets its contract. The loop's invariant: the on bits passed, and those of the nodes left, are all. Assumes nothing.
use Rattle.subtries.proofs.OnBits.{Counting}
use Rattle.subtries.proofs.word.on_bits_from.Given as goal

abbrev pub invariant-loop-left : goal.invariant-loop-left
invariant-loop-left l = Counting l.page l.from l.n l.sum l.at l.left

abbrev pub decreases-loop-left : goal.decreases-loop-left
decreases-loop-left l = l.left
