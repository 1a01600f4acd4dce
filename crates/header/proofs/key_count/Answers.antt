-- `header::key_count` meets its contract. Assumes nothing.
use Rattle.format.specs.Image.{key_count}
use Rattle.header.proofs.key_count.Goals as goal

pub returns : goal.returns
unfolding key_count
returns c = c.number.ensures
