-- The loop of `climb::key_at`: what the bands below have given of the key. Assumes nothing.
use Prim.Native.Nat.{◌-◌, ◌^◌}
use Rattle.climb.proofs.Ranked.{Ranked}
use Rattle.climb.proofs.key_at.Given as goal

abbrev pub invariant-loop-passed : goal.invariant-loop-passed
invariant-loop-passed l = Ranked l.image l.rank l.link.0 l.first l.key (16 ^ l.passed) (8 - l.passed)
