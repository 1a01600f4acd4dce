-- `paged_lookup::page::through_page` meets its contract: the page is judged and followed from its words. Assumes nothing.
use mathlib.Core.Path.{sym}
use Rattle.std.proofs.lemmas.Result.{err_from_is_err_and}
use Rattle.nodes.proofs.Numbers.{bytes_of}
use Rattle.nodes.proofs.Pairs.{gathered_from, pairs_are}
use Rattle.paged_lookup.proofs.Steps.{page_refused, page_way}
use Rattle.paged_lookup.proofs.page.through_page.Goals as goal

-- where the third level starts
pub third_level-third-requires : goal.third_level-third-requires
third_level-third-requires c =
    let p = c.requires in
    (gathered_from _ (bytes_of _ (λ i. (c.type_inv.image i).fits)) _ p.0 c.gather-words.ensures, p.1, p.2)

-- and where the page has been judged
pub check_nodes-requires : goal.check_nodes-requires
check_nodes-requires c =
    let p = c.requires in
    (gathered_from _ (bytes_of _ (λ i. (c.type_inv.image i).fits)) _ p.0 c.gather-words.ensures, p.1, p.2, c.fourth_level-fourth.ensures)

pub returns-in_err-shape : goal.returns-in_err-shape
returns-in_err-shape c =
    let p = err_from_is_err_and c.from_residual.result c.from_residual.ensures.1 in
    let same = pairs_are _ (bytes_of _ (λ i. (c.type_inv.image i).fits)) _ c.requires.0 _ c.gather-words.ensures in
    rw (p.1, p.2) (page_refused c.args.image.now c.args.at _ _ same _ c.in_err-shape.ensures.first_no_is _)

pub follow-requires : goal.follow-requires
follow-requires c =
    let p = c.requires in
    let gathered = gathered_from _ (bytes_of _ (λ i. (c.type_inv.image i).fits)) _ p.0 c.gather-words.ensures in
    let asked = sym c.in_ok-shape.ensures.first_no_is in
    (record { page_in = record { gathered = gathered; asked = asked }; nodes_are = c.in_ok-shape.ensures.counted.nodes_are }, p.3, p.4, c.number.ensures.1)

pub returns : goal.returns
returns c =
    let same = pairs_are _ (bytes_of _ (λ i. (c.type_inv.image i).fits)) _ c.requires.0 _ c.gather-words.ensures in
    page_way c.args.image.now c.args.at _ _ same (sym c.in_ok-shape.ensures.first_no_is) _ _ _ _ c.number.ensures.0 c.follow.ensures
