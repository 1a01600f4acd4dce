-- `checker::band::next_root` meets its contract. Assumes nothing.
use mathlib.Core.Path.{sym, ◌∙◌}
use borrow.Author.Tests.{lt-ltb, le-ltb}
use Rattle.format.proofs.Checked.{cond_yes, cond_no}
use Rattle.checker.proofs.band.next_root.Goals as goal

pub returns-then-next-pages : goal.returns-then-next-pages
returns-then-next-pages c = c.number.ensures.0 ∙ sym (cond_yes _ _ _ (lt-ltb _ _ c.if-next-pages.true))

pub returns : goal.returns
returns c = sym (cond_no _ _ _ (le-ltb _ _ c.if-next-pages.false))
