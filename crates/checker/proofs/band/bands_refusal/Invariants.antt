-- `checker::band::bands_refusal` meets its contract. The loop's invariant: the bands passed got a yes throughout. Assumes nothing.
use Prim.Native.Nat.{◌-◌}
use Rattle.checker.proofs.Images.{Passed}
use Rattle.checker.proofs.band.bands_refusal.Given as goal

abbrev pub invariant-loop-band : goal.invariant-loop-band
invariant-loop-band l = Passed l.image (l.band - 1) l.first
