-- `paged_lookup::child::child_place` meets its contract: each of its lines takes the number of its step. Assumes nothing.
use native.Mathlib.Omega.{arith}
use Rattle.paged_lookup.proofs.Children.{by_steps, counted}
use Rattle.paged_lookup.proofs.child.child_place.Goals as goal

pub overflow_sub-above : goal.overflow_sub-above
overflow_sub-above c = omega (arith, (counted c.requires.0).few_roots)

pub on_bits_through-requires : goal.on_bits_through-requires
on_bits_through-requires c = omega (arith, c.requires.0.to, (counted c.requires.0).end_fits)

-- the on bits through the node are those above its level and its out-links so far
pub overflow_sub-out_links : goal.overflow_sub-out_links
overflow_sub-out_links c = omega (arith, c.on_bits_through.ensures.0, (counted c.requires.0).links)

pub node_at-requires : goal.node_at-requires
node_at-requires c = omega (arith, c.requires.0.to, (counted c.requires.0).end_fits)

-- the node itself has an on bit
pub overflow_sub-position : goal.overflow_sub-position
overflow_sub-position c =
    let n = c.requires.0 in
    omega (arith, c.step_back.ensures.1, c.on_bits_through.ensures.0, (counted n).links, (counted n).some_links)

pub overflow_add-result : goal.overflow_add-result
overflow_add-result c = let n = c.requires.0 in omega (arith, c.on_bits_through.ensures.1, n.to, (counted n).end_fits)

pub returns : goal.returns
returns c =
    by_steps c.requires.0 c.args.side c.on_bits_through.ensures.0 c.node_at.ensures.0 c.step_back.ensures.0
