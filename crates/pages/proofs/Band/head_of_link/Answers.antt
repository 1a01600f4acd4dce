-- `pages::Band::head_of_link` meets its contract. Assumes nothing.
use mathlib.Core.Path.{ap₂, ◌∙◌}
use native.Mathlib.Omega.{arith}
use Rattle.format.specs.Image.{out_link_count, page_b}
use Rattle.pages.proofs.Pages.{first_b}
use Rattle.pages.proofs.Opened.{link_in}
use Rattle.pages.proofs.Band.head_of_link.Goals as goal

pub last_page-index-requires : goal.last_page-index-requires
last_page-index-requires c =
    let p = c.requires in (p.0, p.1, omega (arith, first_b p.0 _ p.1.from p.1.to))

pub returns : goal.returns
returns c =
    let p = c.requires in
    let e = c.page_head.ensures in
    let h = link_in p.0 p.1 c.last_page-index.ensures p.2 in
    let b = e.0.b ∙ ap₂ (page_b c.args.image.now) e.1 e.2 in
    let n = e.0.links ∙ ap₂ (out_link_count c.args.image.now) e.1 e.2 in
    (e.0, e.1, omega (arith, h.0), omega (arith, h.1))
