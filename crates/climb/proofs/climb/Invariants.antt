-- The loop of `climb::climb`: the climb from the out-link has come to a place. Assumes nothing.
use mathlib.Core.Path.{◌≡◌}
use Prim.Native.Nat.{◌^◌}
use Rattle.pages.proofs.Heads.{opened}
use Rattle.climb.proofs.Climbing.{Climb}
use Rattle.climb.proofs.climb.Given as goal

abbrev pub invariant-loop-level : goal.invariant-loop-level
invariant-loop-level l = (l.nodes ≡ (opened l.image l.head).nodes) × Climb l.image (opened l.image l.head) l.words l.initial.place l.place l.bits (2 ^ l.level) l.level
