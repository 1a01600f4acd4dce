-- `page_writer::fill_levels` meets its contract: the levels are reached one after the other. Assumes nothing.
use Rattle.page_writer.proofs.Pages.{reached_room, reached_next, reached_start, fourth_reached, third_reached, second_reached, reached_end}
use Rattle.page_writer.proofs.fill_levels.Goals as goal

pub fill_level-fourth-requires : goal.fill_level-fourth-requires
fill_level-fourth-requires c = reached_room _ _ _ _ _ _ _ _ _ (reached_start _ _ _ c.requires)

pub fill_level-third-requires : goal.fill_level-third-requires
fill_level-third-requires c = reached_room _ _ _ _ _ _ _ _ _ (fourth_reached _ _ _ c.requires _ _ _ c.fill_level-fourth.ensures)

pub fill_level-second-requires : goal.fill_level-second-requires
fill_level-second-requires c = reached_room _ _ _ _ _ _ _ _ _ (third_reached _ _ _ c.requires _ _ _ c.fill_level-fourth.ensures _ _ _ c.fill_level-third.ensures)

pub fill_level-first-requires : goal.fill_level-first-requires
fill_level-first-requires c =
    reached_room _ _ _ _ _ _ _ _ _ (second_reached _ _ _ c.requires _ _ _ c.fill_level-fourth.ensures _ _ _ c.fill_level-third.ensures _ _ _ c.fill_level-second.ensures)

pub returns : goal.returns
returns c =
    let r = second_reached _ _ _ c.requires _ _ _ c.fill_level-fourth.ensures _ _ _ c.fill_level-third.ensures _ _ _ c.fill_level-second.ensures in
    reached_end _ _ _ c.requires _ _ _ _ _ _ c.fill_level-fourth.ensures (reached_next _ _ _ _ _ _ _ _ _ r _ _ _ c.fill_level-first.ensures)
