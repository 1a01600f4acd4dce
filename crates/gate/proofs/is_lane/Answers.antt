-- `gate::is_lane` meets its contract. Assumes nothing.
use Rattle.format.specs.Scan.{is_lane}
use Rattle.gate.proofs.is_lane.Goals as goal

pub returns : goal.returns
unfolding is_lane
returns c = c.one_to.ensures
