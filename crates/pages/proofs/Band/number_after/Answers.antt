-- `pages::Band::number_after` meets its contract. Assumes nothing.
use mathlib.Core.Path.{◌∙◌}
use native.Mathlib.Omega.{arith}
use Rattle.pages.proofs.Pages.{header_long, next_none}
use Rattle.pages.proofs.Opened.{next_b_last}
use Rattle.pages.proofs.Search.{head_after}
use Rattle.pages.proofs.Band.number_after.Goals as goal

pub returns-then-index-self : goal.returns-then-index-self
returns-then-index-self c =
    let p = c.requires in
    c.number_at.ensures.0 ∙ head_after p.0 p.1 c.args.field _ (omega (arith, p.1.pages, c.if-index-self.true))

pub links_due-requires : goal.links_due-requires
links_due-requires c = let p = c.requires in (header_long p.0, p.1.to)

pub returns-in-T : goal.returns-in-T
returns-in-T c =
    let p = c.requires in
    rw c.in-T.is (p.1.roots ∙ next_none p.0 _ _ p.1.from p.1.to p.2 (omega (arith, p.1.pages, c.if-index-self.false)))

pub returns-in-B : goal.returns-in-B
returns-in-B c =
    let p = c.requires in
    rw c.in-B.is (c.links_due.ensures.0 ∙ next_b_last p.0 _ p.1.from p.1.to _ p.2 (omega (arith, p.1.pages, c.if-index-self.false)))
