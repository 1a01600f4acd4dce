-- `nodes::Words::none_empty_late` meets its contract: words 0 to 6 by what they have in common, and the first nodes of word 7. Assumes nothing.
use mathlib.Core.Path.{refl, ◌∙◌}
use borrow.Author.Tests.{ne_eqb}
use lib.Bits.{bit_and}
use Rattle.nodes.proofs.Passing.{late_no, late_yes}
use Rattle.nodes.proofs.Words.none_empty_late.Goals as goal

pub returns-then-a-b-eq-LOW_BITS : goal.returns-then-a-b-eq-LOW_BITS
returns-then-a-b-eq-LOW_BITS c =
    c.first_used.ensures
    ∙ late_yes _ _ c.requires.0 c.requires.1 _
    (λ i. bit_and (bit_and (bit_and (c.used_nodes.ensures i) (c.used_nodes-2.ensures i)) (bit_and (c.used_nodes-3.ensures i) (c.used_nodes-4.ensures i))) (bit_and (bit_and (c.used_nodes-5.ensures i) (c.used_nodes-6.ensures i)) (c.used_nodes-7.ensures i)))
    c.if-a-b-eq-LOW_BITS.true _ refl

pub returns-else-a-b-eq-LOW_BITS : goal.returns-else-a-b-eq-LOW_BITS
returns-else-a-b-eq-LOW_BITS c =
    ne_eqb _ _ c.if-a-b-eq-LOW_BITS.false
    ∙ late_no _ _ c.requires.0 c.requires.1 _
    (λ i. bit_and (bit_and (bit_and (c.used_nodes.ensures i) (c.used_nodes-2.ensures i)) (bit_and (c.used_nodes-3.ensures i) (c.used_nodes-4.ensures i))) (bit_and (bit_and (c.used_nodes-5.ensures i) (c.used_nodes-6.ensures i)) (c.used_nodes-7.ensures i)))
    c.if-a-b-eq-LOW_BITS.false
