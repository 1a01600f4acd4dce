-- `repair::fill::fill` meets its contract: a copy, the header's numbers and the pages'. Assumes nothing.
use native.Mathlib.Omega.{arith}
use Rattle.nodes.proofs.Numbers.{bytes_of}
use Rattle.repair.proofs.Filling.{copied_ready, fill_done, filled_ready, nine_places, places_few}
use Rattle.repair.proofs.fill.fill.Goals as goal

pub fill_header-in_header-requires : goal.fill_header-in_header-requires
fill_header-in_header-requires c = (copied_ready c.requires.0 c.load.ensures, c.requires.1.counted)

pub fill_pages-requires : goal.fill_pages-requires
fill_pages-requires c = (filled_ready (copied_ready c.requires.0 c.load.ensures) c.fill_header-in_header.ensures, c.requires.1.heads)

pub overflow_add-result : goal.overflow_add-result
overflow_add-result c = omega (arith, c.fill_pages.ensures.few, c.fill_header-in_header.ensures.few, nine_places, places_few c.args.image.now, c.requires.0.whole.few)

pub returns : goal.returns
returns c =
    fill_done c.args.image.now (bytes_of _ (λ i. (c.type_inv.image i).fits)) c.requires.0.whole _ _ _ _ _ _ c.load.ensures c.fill_header-in_header.ensures c.fill_pages.ensures
