-- `paged_lookup::page::Way::is_below` meets its contract. Assumes nothing.
use borrow.Author.Rules.{rules}
use Rattle.paged_lookup.specs.Paged.{is_below}
use Rattle.paged_lookup.proofs.page.Way.is_below.Goals as goal

pub returns-in-Out : goal.returns-in-Out
unfolding is_below
returns-in-Out c = search rules

pub returns-in-Off : goal.returns-in-Off
unfolding is_below
returns-in-Off c = search rules
