-- `zorder::spread_table` meets its contract: the constant is the table of spreads. Assumes nothing.
use Rattle.zorder.proofs.Spreads.{spreads, is_spreads}
use Rattle.zorder.proofs.spread_table.Goals as goal

pub returns : goal.returns
unfolding spreads
returns c = is_spreads
