-- `header::mark_right` meets its contract. Assumes nothing.
use mathlib.Core.Bool.{and-true}
use borrow.Author.Tests.{eq-eqb, ne_eqb}
use Rattle.format.specs.Seq.{every, numbers_from, up_to}
use Rattle.format.specs.Header.{mark}
use Rattle.format.specs.Question.{mark_right}
use Rattle.header.proofs.mark_right.Goals as goal

pub returns-then-image-ne76 : goal.returns-then-image-ne76
unfolding mark_right mark every up_to numbers_from
returns-then-image-ne76 c = rw (ne_eqb _ 0x4C c.if-image-ne76.true)

pub returns-then-image-ne80 : goal.returns-then-image-ne80
unfolding mark_right mark every up_to numbers_from
returns-then-image-ne80 c = rw (eq-eqb _ 0x4C c.if-image-ne76.false, ne_eqb _ 0x50 c.if-image-ne80.true)

pub returns : goal.returns
unfolding mark_right mark every up_to numbers_from
returns c = rw (eq-eqb _ 0x4C c.if-image-ne76.false, eq-eqb _ 0x50 c.if-image-ne80.false, and-true)
