-- The proof of the cycle of calls {record_at, record_below, record_of_pair}. The measure is the bands left.
-- Assumes nothing.
use Prim.Native.Nat.{◌-◌, ◌*◌}
use Rattle.holder.proofs.Holder.+record_at_record_below_record_of_pair.Given as goal

abbrev pub decreases-record_at : goal.decreases-record_at
decreases-record_at l = 28 - 3 * l.band

abbrev pub decreases-record_below : goal.decreases-record_below
decreases-record_below l = 27 - 3 * l.band

abbrev pub decreases-record_of_pair : goal.decreases-record_of_pair
decreases-record_of_pair l = 29 - 3 * l.band
