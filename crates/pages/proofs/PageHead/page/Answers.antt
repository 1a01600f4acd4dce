-- `pages::PageHead::page` meets its contract. Assumes nothing.
use mathlib.Core.Path.{refl}
use native.Mathlib.Omega.{arith}
use Rattle.pages.proofs.Heads.{head_fits, nodes_asked, nodes_are}
use Rattle.pages.proofs.PageHead.page.Goals as goal

pub overflow_mul-self : goal.overflow_mul-self
overflow_mul-self c = let p = c.requires in omega (arith, head_fits p.0 p.1)

pub gather-words-requires : goal.gather-words-requires
gather-words-requires c = let p = c.requires in head_fits p.0 p.1

pub node_count-nodes-requires : goal.node_count-nodes-requires
node_count-nodes-requires c = let p = c.requires in nodes_asked p.0 p.1 c.gather-words.ensures

pub returns : goal.returns
returns c =
    let p = c.requires in
    let d = p.1 in
    let g = c.gather-words.ensures in (
      record {
        from = d.from;
        to = d.to;
        in_band = d.in_band;
        number = d.number;
        t = d.t;
        b = d.b;
        roots = d.roots;
        nodes = nodes_are p.0 d g c.node_count-nodes.ensures;
        words = g;
      },
      refl,
      refl,
      refl,
    )
