-- The loop of `nodes::Words::none_empty`: what is left of the nodes, and the word that holds the next. Assumes nothing.
use Rattle.nodes.proofs.Passing.{Passing}
use Rattle.nodes.proofs.Words.none_empty.Given as goal

abbrev pub invariant-loop-next : goal.invariant-loop-next
invariant-loop-next l = Passing l.self.word l.n l.left l.next-index l.w
