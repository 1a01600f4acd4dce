-- `page_writer::fill_page` meets its contract. Assumes nothing.
use native.Mathlib.Omega.{arith}
use borrow.Author.Rules.{rules}
use Rattle.nodes.proofs.Numbers.{bytes_of}
use Rattle.page_writer.proofs.Filled.{levels_room, first_within, links_more, page_done}
use Rattle.page_writer.proofs.fill_page.Goals as goal

pub fill_levels-levels-requires : goal.fill_levels-levels-requires
fill_levels-levels-requires c = levels_room _ _ _ _ c.requires _ c.begin_page.ensures

pub overflow_sub-roots : goal.overflow_sub-roots
overflow_sub-roots c = first_within _ _ _ _ c.requires _ c.begin_page.ensures _ _ _ c.fill_levels-levels.ensures

pub overflow_sub-links : goal.overflow_sub-links
overflow_sub-links c =
    omega (arith, links_more _ _ _ _ c.requires _ c.begin_page.ensures _ _ _ c.fill_levels-levels.ensures (bytes_of c.fill_levels-levels.new.page (search rules)) _ c.gather-words.ensures _ _ c.on_bits.ensures.0 c.on_bits_before.ensures.0)

pub overflow_add-result-2 : goal.overflow_add-result-2
overflow_add-result-2 c = record { fits = omega (arith, c.requires.b_fits) }

pub returns : goal.returns
returns c =
    page_done _ _ _ _ c.requires _ c.begin_page.ensures _ _ _ c.fill_levels-levels.ensures (bytes_of c.fill_levels-levels.new.page (search rules)) _ c.gather-words.ensures _ _ c.on_bits.ensures.0 c.on_bits_before.ensures.0
