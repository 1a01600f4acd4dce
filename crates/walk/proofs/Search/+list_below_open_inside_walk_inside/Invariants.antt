-- The proof of the cycle of calls {list_below, open_inside, walk_inside}. The measure is the bands left; the walker's loop ends with the out-links of the
-- subtrie, the opener's with a subtrie of several out-links or a key.
-- Assumes nothing.
use Prim.Native.Nat.{◌-◌, ◌*◌}
use Rattle.walk.specs.Walk.{any_key}
use Rattle.walk.proofs.Chains.{Chain}
use Rattle.walk.proofs.Walked.{Walk}
use Rattle.walk.proofs.Search.+list_below_open_inside_walk_inside.Given as goal

abbrev pub decreases-list_below : goal.decreases-list_below
decreases-list_below l = 31 - 3 * l.band

abbrev pub decreases-open_inside : goal.decreases-open_inside
decreases-open_inside l = 30 - 3 * l.band

abbrev pub decreases-walk_inside : goal.decreases-walk_inside
decreases-walk_inside l = 29 - 3 * l.number

abbrev pub invariant-open_inside-loop-number : goal.invariant-open_inside-loop-number
invariant-open_inside-loop-number l = Chain l.self.image.now l.band l.prefix l.done l.initial.keys l.number l.next.0 l.key l.keys l.spots

abbrev pub invariant-walk_inside-loop-rest : goal.invariant-walk_inside-loop-rest
invariant-walk_inside-loop-rest l = Walk l.self.image.now any_key l.number l.fn.subtrie.set l.prefix l.done l.initial.keys l.n l.next.0 l.rest l.keys l.spots

abbrev pub decreases-walk_inside-loop-rest : goal.decreases-walk_inside-loop-rest
decreases-walk_inside-loop-rest l = l.rest
