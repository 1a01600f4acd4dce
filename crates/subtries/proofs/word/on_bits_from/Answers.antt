-- `subtries::word::on_bits_from` meets its contract. The loop's invariant: the on bits passed, and those of the nodes left, are all. Assumes nothing.
use native.Mathlib.Nat.{zero-add}
use native.Mathlib.Omega.{arith}
use Rattle.subtries.specs.OnBits.{on_bits_from}
use Rattle.subtries.proofs.OnBits.{counting_small, counting_next, counting_end}
use Rattle.subtries.proofs.word.on_bits_from.Goals as goal

pub loop-left-init : goal.loop-left-init
loop-left-init c =
    let p = c.requires in
    record { inside = p.1; to = p.2; few = omega arith; sum_is = zero-add (on_bits_from c.args.page.now c.args.from c.args.n) }

pub read_nodes-requires : goal.read_nodes-requires
read_nodes-requires c = (c.requires.0, c.loop-left.invariant.inside, omega arith)

pub overflow_add-sum : goal.overflow_add-sum
overflow_add-sum c = omega (arith, counting_small c.loop-left.invariant, c.ones_in-sum.ensures.1)

pub overflow_add-at : goal.overflow_add-at
overflow_add-at c = omega (arith, c.loop-left.invariant.inside)

pub loop-left-preserved : goal.loop-left-preserved
loop-left-preserved c = counting_next c.loop-left.invariant c.read_nodes.ensures c.loop-left-test.true c.ones_in-sum.ensures.0

pub read_nodes-requires-2 : goal.read_nodes-requires-2
read_nodes-requires-2 c = (c.requires.0, c.loop-left.invariant.inside, omega arith)

pub overflow_mul-left : goal.overflow_mul-left
overflow_mul-left c = omega (arith, c.loop-left-test.false)

pub overflow_sub-left-2 : goal.overflow_sub-left-2
overflow_sub-left-2 c = omega (arith, c.loop-left-test.false)

pub overflow_shr-read_nodes-3 : goal.overflow_shr-read_nodes-3
overflow_shr-read_nodes-3 c = omega (arith, c.loop-left-test.false)

pub overflow_add-result : goal.overflow_add-result
overflow_add-result c = omega (arith, counting_small c.loop-left.invariant, c.ones_in.ensures.1)

pub returns : goal.returns
returns c = counting_end c.loop-left.invariant c.read_nodes-2.ensures c.loop-left-test.false c.ones_in.ensures.0
