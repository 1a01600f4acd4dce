-- `checker::band::band_refusal` meets its contract. The loop's invariant: the pages passed got a yes throughout. Assumes nothing.
use Rattle.checker.proofs.Bands.{Turn}
use Rattle.checker.proofs.band.band_refusal.Given as goal

abbrev pub invariant-loop-i : goal.invariant-loop-i
invariant-loop-i l = Turn l.image l.band l.first l.pages l.roots l.i l.t.0 l.b.0 l.nodes
