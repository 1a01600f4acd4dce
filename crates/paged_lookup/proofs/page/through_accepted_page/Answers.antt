-- `paged_lookup::page::through_accepted_page` meets its contract. Assumes nothing.
use native.Mathlib.Omega.{arith}
use Rattle.pages.proofs.Heads.{head_fits, nodes_asked}
use Rattle.paged_lookup.proofs.Steps.{head_small, head_pairs, head_asked, head_judged, head_b, page_way}
use Rattle.paged_lookup.proofs.page.through_accepted_page.Goals as goal

pub overflow_mul-head : goal.overflow_mul-head
overflow_mul-head c = let p = c.requires in omega (arith, head_fits p.0 p.1)

pub gather-words-requires : goal.gather-words-requires
gather-words-requires c = let p = c.requires in head_fits p.0 p.1

pub node_count-requires : goal.node_count-requires
node_count-requires c = let p = c.requires in nodes_asked p.0 p.1 c.gather-words.ensures

pub follow-requires : goal.follow-requires
follow-requires c =
    let p = c.requires in
    (head_judged p.0 p.1 c.gather-words.ensures c.node_count.ensures, omega (arith, p.2, p.3), omega (arith, p.1.to), head_small p.0 p.1)

pub returns : goal.returns
returns c =
    let p = c.requires in
    let e = c.gather-words.ensures in
    page_way _ _ _ _ (head_pairs p.0 p.1 e) (head_asked p.0 p.1 e) _ _ _ _ (head_b p.0 p.1 e) c.follow.ensures
