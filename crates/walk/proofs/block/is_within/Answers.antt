-- `walk::block::is_within` meets its contract. Assumes nothing.
use native.Mathlib.Omega.{arith}
use borrow.Author.Tests.{le-leb, lt-leb}
use Rattle.format.specs.Answer.{is_within}
use Rattle.walk.proofs.block.is_within.Goals as goal

pub returns-then-from-n : goal.returns-then-from-n
unfolding is_within
returns-then-from-n c = rw (c.from-then-from-n.ensures, le-leb c.args.range.low c.args.n (omega (arith, c.from.ensures)))

pub returns-else-from-n : goal.returns-else-from-n
unfolding is_within
returns-else-from-n c = rw (c.from.ensures, lt-leb c.args.range.low c.args.n (omega (arith, c.from.ensures)))
