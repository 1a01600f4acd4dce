-- `walk::block::Block::is_in` meets its contract. Assumes nothing.
use mathlib.Core.Bool.{true, false}
use mathlib.Core.Path.{◌≡◌, sym, ap, ◌∙◌}
use Rattle.format.specs.Answer.{contains, inside, is_within}
use Rattle.format.specs.Key.{holder_of}
use Rattle.walk.proofs.block.Block.is_in.Goals as goal

pub returns-then-is_within : goal.returns-then-is_within
unfolding inside contains
returns-then-is_within c =
    let holders = c.args.rectangle.holders in
    let h : is_within holders (holder_of c.args.self.prefix) ≡ true = ap (is_within holders) (sym c.requires.holder_is) ∙ sym c.is_within.ensures ∙ c.if-is_within.true in
    rw h (c.is_within-then-is_within.ensures ∙ ap (is_within c.args.rectangle.slots) c.requires.slot_is)

pub returns-else-is_within : goal.returns-else-is_within
unfolding inside contains
returns-else-is_within c =
    let holders = c.args.rectangle.holders in
    let h : is_within holders (holder_of c.args.self.prefix) ≡ false = ap (is_within holders) (sym c.requires.holder_is) ∙ sym c.is_within.ensures ∙ c.if-is_within.false in
    rw h c.if-is_within.false
