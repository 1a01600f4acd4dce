-- `paged_lookup::page::follow` meets its contract. The loop's invariant: the way so far, and where its level ends. Assumes nothing.
use Rattle.paged_lookup.specs.Way.{way_at}
use Rattle.paged_lookup.proofs.Following.{Going}
use Rattle.paged_lookup.proofs.page.follow.Given as goal

abbrev pub invariant-loop-passed : goal.invariant-loop-passed
invariant-loop-passed l = Going l.words.word l.words.before l.page (way_at l.on l.root) l.key l.level l.at l.end l.passed
