-- `walk::first_on` meets its contract. Assumes nothing.
use Rattle.walk.proofs.Endings.{first_found}
use Rattle.walk.proofs.first_on.Goals as goal

pub overflow_sub-result : goal.overflow_sub-result
overflow_sub-result c = (first_found c.args.set c.requires.0 c.requires.1).0

pub returns : goal.returns
returns c = (first_found c.args.set c.requires.0 c.requires.1).1
