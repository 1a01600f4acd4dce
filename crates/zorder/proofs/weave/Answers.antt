-- `zorder::weave` meets its contract: the constant is the table of spreads. Assumes nothing.
use Rattle.zorder.proofs.Spreads.{spreads, is_spreads}
use Rattle.zorder.proofs.weave.Goals as goal

pub weave_by-requires : goal.weave_by-requires
unfolding spreads
weave_by-requires c = is_spreads
