-- `reader::one_at` meets its contract. Assumes nothing.
use mathlib.Core.Path.{refl}
use Rattle.reader.proofs.Nodes.{one_is}
use Rattle.reader.proofs.one_at.Goals as goal

pub returns : goal.returns
returns c = rw c.from-b.ensures (one_is c.args.page.now c.args.node _ refl)
