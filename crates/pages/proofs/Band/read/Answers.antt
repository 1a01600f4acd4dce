-- `pages::Band::read` meets its contract. Assumes nothing.
use mathlib.Core.Path.{refl}
use Rattle.pages.proofs.Pages.{header_long}
use Rattle.pages.proofs.Band.read.Goals as goal

pub page_count-requires : goal.page_count-requires
page_count-requires c = let p = c.requires in (header_long p.0, p.2)

pub root_count-requires : goal.root_count-requires
root_count-requires c = let p = c.requires in (header_long p.0, p.2)

pub returns : goal.returns
returns c =
    let p = c.requires in
    (record { from = p.1; to = p.2; first = p.3; pages = c.page_count.ensures.0; roots = c.root_count.ensures.0 }, refl)
