-- `walk::Search::list_key` meets its contract. Assumes nothing.
use mathlib.Core.Path.{sym, ◌∙◌}
use Rattle.format.specs.Seq.{cons_if, select}
use Rattle.walk.proofs.Places.{listed_none, listed_one}
use Rattle.walk.proofs.Search.list_key.Goals as goal

pub put-requires : goal.put-requires
put-requires c = c.requires.1 (sym c.is_in.ensures ∙ c.if-is_in.true)

pub returns-then-is_in : goal.returns-then-is_in
unfolding cons_if select
returns-then-is_in c =
    rw (c.put.ensures.0, c.put.ensures.1) (listed_one _ (rw (sym c.is_in.ensures ∙ c.if-is_in.true)))

pub returns : goal.returns
unfolding cons_if select
returns c = listed_none (rw (sym c.is_in.ensures ∙ c.if-is_in.false))
