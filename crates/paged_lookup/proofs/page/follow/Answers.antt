-- `paged_lookup::page::follow` meets its contract. The loop's invariant: the way so far, and where its level ends. Assumes nothing.
use native.Mathlib.Omega.{arith}
use borrow.Author.Tests.{ltb-true}
use Rattle.paged_lookup.proofs.Following.{going_start, going_roots, going_fits, going_room, going_node, going_next, going_out}
use Rattle.paged_lookup.proofs.Steps.{way_off, way_out}
use Rattle.paged_lookup.proofs.page.follow.Goals as goal

pub loop-passed-init : goal.loop-passed-init
loop-passed-init c = going_start c.requires.0 c.requires.1 c.requires.2

pub overflow_add-level : goal.overflow_add-level
overflow_add-level c = omega (arith, c.loop-passed.invariant.deep)

pub key_bit-side-requires : goal.key_bit-side-requires
key_bit-side-requires c = omega (arith, c.loop-passed.invariant.deep)

pub step-at-requires : goal.step-at-requires
step-at-requires c =
    let s = c.loop-passed.invariant in
    let h = c.loop-passed-test.true in
    let r = going_room s h in
    (r.0, r.1, λ e. going_node s (ltb-true c.loop-passed.passed 3 e), going_roots s, c.key_bit-side.ensures.1)

pub on_bits_before-requires : goal.on_bits_before-requires
on_bits_before-requires c = going_fits c.loop-passed.invariant c.loop-passed-test.true

pub overflow_add-end : goal.overflow_add-end
overflow_add-end c = omega (arith, c.on_bits_before.ensures.1, going_roots c.loop-passed.invariant)

pub loop-passed-preserved : goal.loop-passed-preserved
loop-passed-preserved c =
    let e = c.step-at.ensures in
    going_next c.loop-passed.invariant c.loop-passed-test.true c.key_bit-side.ensures.0 c.key_bit-side.ensures.1 e.0 e.1 e.2 c.on_bits_before.ensures.0

pub overflow_sub-link : goal.overflow_sub-link
overflow_sub-link c = (going_out c.loop-passed.invariant c.loop-passed-test.false).0

pub overflow_add-link : goal.overflow_add-link
overflow_add-link c = omega (arith, c.loop-passed.invariant.short, c.requires.3)

pub returns-then-at : goal.returns-then-at
returns-then-at c = way_out _ _ _ (going_out c.loop-passed.invariant c.loop-passed-test.false).1 c.if-at.true

-- past an off bit the link is a figure:
-- the out-links of the band that lie left
pub returns : goal.returns
returns c = way_off _ _ _ (going_out c.loop-passed.invariant c.loop-passed-test.false).1 c.if-at.false
