-- `header::total_pages` meets its contract. Assumes nothing.
use native.Mathlib.Omega.{arith}
use Rattle.format.specs.Image.{bands, pages_before}
use Rattle.header.proofs.total_pages.Goals as goal

pub returns : goal.returns
unfolding bands pages_before
returns c = (c.pages_before.ensures.0, omega arith)
