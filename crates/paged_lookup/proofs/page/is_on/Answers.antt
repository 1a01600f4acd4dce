-- `paged_lookup::page::is_on` meets its contract. Assumes nothing.
use mathlib.Core.Path.{ap, ◌∙◌}
use Rattle.format.specs.Trie.{bit}
use Rattle.paged_lookup.proofs.Sides.{after_on, after_off}
use Rattle.paged_lookup.proofs.page.is_on.Goals as goal

pub node_at-requires : goal.node_at-requires
node_at-requires c = c.requires c.if-from.true

pub returns-then-from : goal.returns-then-from
returns-then-from c =
    let a = c.args in
    after_on a.words.now.word a.from.place a.side c.if-from.true (c.bit_of.ensures ∙ ap (bit a.side) c.node_at.ensures.0)

pub returns : goal.returns
returns c = let a = c.args in after_off a.words.now.word a.from.place a.side c.if-from.false
