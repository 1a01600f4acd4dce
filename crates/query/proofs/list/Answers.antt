-- `query::list` meets its contract. Assumes nothing.
use mathlib.Core.Path.{sym, ◌∙◌}
use borrow.Author.Tests.{ltb-true, ltb-false}
use Rattle.std.proofs.lemmas.Result.{err_from_is_err_and}
use Rattle.checker.proofs.After.{accepted_image, returned_count}
use Rattle.nodes.proofs.Numbers.{bytes_of}
use Rattle.query.proofs.Jobs.{list_refused, list_order, list_short, list_done}
use Rattle.query.proofs.list.Goals as goal

pub returns-in_err-all : goal.returns-in_err-all
returns-in_err-all c =
    let p = err_from_is_err_and c.from_residual.result c.from_residual.ensures.1 in
    rw (p.1, p.2) (list_refused c.args.image.now _ _ _ c.in_err-all.ensures)

pub returns-then-not-in_order : goal.returns-then-not-in_order
returns-then-not-in_order c = list_order c.args.image.now _ _ _ c.in_ok-all.ensures (sym c.in_order.ensures ∙ c.if-not-in_order.true)

pub is_short-requires : goal.is_short-requires
is_short-requires c =
    let e = c.in_ok-all.ensures in
    (accepted_image _ _ e (bytes_of _ (λ i. (c.type_inv.image i).fits)), returned_count _ _ e)

pub returns-then-is_short : goal.returns-then-is_short
returns-then-is_short c =
    list_short c.args.image.now _ _ _ c.in_ok-all.ensures (sym c.in_order.ensures ∙ c.if-not-in_order.false) (ltb-true _ _ (sym c.is_short.ensures ∙ c.if-is_short.true))

pub list_members-requires : goal.list_members-requires
list_members-requires c = accepted_image _ _ c.in_ok-all.ensures (bytes_of _ (λ i. (c.type_inv.image i).fits))

pub returns : goal.returns
returns c =
    list_done c.args.image.now _ _ _ c.in_ok-all.ensures (sym c.in_order.ensures ∙ c.if-not-in_order.false)
    (ltb-false _ _ (sym c.is_short.ensures ∙ c.if-is_short.false)) c.list_members.ensures
