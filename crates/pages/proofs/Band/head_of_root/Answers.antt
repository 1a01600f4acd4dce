-- `pages::Band::head_of_root` meets its contract. Assumes nothing.
use mathlib.Core.Path.{ap₂, ◌∙◌}
use native.Mathlib.Omega.{arith}
use Rattle.format.specs.Image.{page_roots, page_t}
use Rattle.pages.proofs.Pages.{first_t}
use Rattle.pages.proofs.Opened.{root_in_lem}
use Rattle.pages.proofs.Band.head_of_root.Goals as goal

pub last_page-index-requires : goal.last_page-index-requires
last_page-index-requires c =
    let p = c.requires in (p.0, p.1, omega (arith, first_t p.0 _ p.1.from p.1.to))

pub returns : goal.returns
returns c =
    let p = c.requires in
    let e = c.page_head.ensures in
    let h = root_in_lem p.0 p.1 c.last_page-index.ensures p.2 in
    let t = e.0.t ∙ ap₂ (page_t c.args.image.now) e.1 e.2 in
    let n = e.0.roots ∙ ap₂ (page_roots c.args.image.now) e.1 e.2 in
    (e.0, e.1, omega (arith, h.0), omega (arith, h.1))
