-- `header::root_count` meets its contract. Assumes nothing.
use Rattle.format.specs.Image.{root_count}
use Rattle.header.proofs.root_count.Goals as goal

pub returns : goal.returns
unfolding root_count
returns c = c.number.ensures
