-- The proof of the cycle of calls {list_block, open_band, walk_subtrie}. The measure is the bands left; the walker's loop ends with the out-links of the
-- subtrie.
-- Assumes nothing.
use Prim.Native.Nat.{◌-◌, ◌*◌}
use Rattle.format.specs.Answer.{inside}
use Rattle.walk.proofs.Walked.{Walk}
use Rattle.walk.proofs.Search.+list_block_open_band_walk_subtrie.Given as goal

abbrev pub decreases-list_block : goal.decreases-list_block
decreases-list_block l = 31 - 3 * l.number

abbrev pub decreases-open_band : goal.decreases-open_band
decreases-open_band l = 30 - 3 * l.number

abbrev pub decreases-walk_subtrie : goal.decreases-walk_subtrie
decreases-walk_subtrie l = 29 - 3 * l.number

abbrev pub invariant-walk_subtrie-loop-rest : goal.invariant-walk_subtrie-loop-rest
invariant-walk_subtrie-loop-rest l = Walk l.self.image.now (inside l.self.rectangle) l.number l.fn.subtrie.set l.block.prefix l.done l.initial.keys l.n l.next.0 l.rest l.keys l.spots

abbrev pub decreases-walk_subtrie-loop-rest : goal.decreases-walk_subtrie-loop-rest
decreases-walk_subtrie-loop-rest l = l.rest
