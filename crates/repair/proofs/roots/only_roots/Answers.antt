-- `repair::roots::only_roots` meets its contract. The loop's invariant: the page's roots, where it has any, are from `low` to `high`. Assumes nothing.
use native.Mathlib.Omega.{arith}
use Rattle.repair.proofs.Seeking.{seek_fewer, seek_found, seek_more, seek_start}
use Rattle.repair.proofs.roots.only_roots.Goals as goal

pub loop-low-init : goal.loop-low-init
loop-low-init c = let p = c.requires in seek_start p.0 p.1 p.2

pub returns-then-end-nodes : goal.returns-then-end-nodes
returns-then-end-nodes c =
    seek_found c.loop-low.invariant _ c.share-roots.ensures.0 c.share-roots.ensures.1 _ c.levels_of-levels.ensures _ c.nodes_end-nodes.ensures c.if-end-nodes.true

pub loop-low-preserved-then-end-nodes-2 : goal.loop-low-preserved-then-end-nodes-2
loop-low-preserved-then-end-nodes-2 c =
    seek_more c.loop-low.invariant _ c.share-roots.ensures.0 c.share-roots.ensures.1 _ c.levels_of-levels.ensures _ c.nodes_end-nodes.ensures c.if-end-nodes-2.true

pub loop-low-preserved : goal.loop-low-preserved
loop-low-preserved c =
    seek_fewer c.loop-low.invariant _ c.share-roots.ensures.0 c.share-roots.ensures.1 _ c.levels_of-levels.ensures _ c.nodes_end-nodes.ensures (omega (arith, c.if-end-nodes.false, c.if-end-nodes-2.false))
