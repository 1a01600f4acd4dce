-- `header::page_count` meets its contract. Assumes nothing.
use Rattle.format.specs.Image.{page_count}
use Rattle.header.proofs.page_count.Goals as goal

pub returns : goal.returns
unfolding page_count
returns c = c.number.ensures
