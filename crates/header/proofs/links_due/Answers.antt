-- `header::links_due` meets its contract. Assumes nothing.
use mathlib.Core.Path.{sym, ◌∙◌}
use borrow.Author.Tests.{lt-ltb, le-ltb}
use Rattle.format.specs.Question.{out_links_due}
use Rattle.format.proofs.Checked.{cond_yes, cond_no}
use Rattle.header.proofs.links_due.Goals as goal

pub returns-then-band-lt8 : goal.returns-then-band-lt8
unfolding out_links_due
returns-then-band-lt8 c = (c.root_count.ensures.0 ∙ sym (cond_yes _ _ _ (lt-ltb _ _ c.if-band-lt8.true)), c.root_count.ensures.1)

pub returns : goal.returns
unfolding out_links_due
returns c = (c.key_count.ensures.0 ∙ sym (cond_no _ _ _ (le-ltb _ _ c.if-band-lt8.false)), c.key_count.ensures.1)
