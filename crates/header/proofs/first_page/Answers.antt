-- `header::first_page` meets its contract. Assumes nothing.
use native.Mathlib.Omega.{arith}
use Rattle.format.specs.Image.{page_number}
use Rattle.header.proofs.first_page.Goals as goal

pub returns : goal.returns
unfolding page_number
returns c = (omega arith, omega arith)
