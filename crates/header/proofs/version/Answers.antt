-- `header::version` meets its contract. Assumes nothing.
use Rattle.format.specs.Image.{version_of}
use Rattle.header.proofs.version.Goals as goal

pub returns : goal.returns
unfolding version_of
returns c = c.number.ensures
