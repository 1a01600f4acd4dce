-- `query::count` meets its contract. Assumes nothing.
use mathlib.Core.Path.{sym, ◌∙◌}
use Rattle.std.proofs.lemmas.Result.{err_from_is_err_and}
use Rattle.checker.proofs.After.{accepted_image}
use Rattle.nodes.proofs.Numbers.{bytes_of}
use Rattle.query.proofs.Jobs.{count_refused, count_order, count-done}
use Rattle.query.proofs.count.Goals as goal

pub returns-in_err-check : goal.returns-in_err-check
returns-in_err-check c =
    let p = err_from_is_err_and c.from_residual.result c.from_residual.ensures.1 in
    rw (p.1, p.2) (count_refused _ _ _ c.in_err-check.ensures)

pub returns-then-not-in_order : goal.returns-then-not-in_order
returns-then-not-in_order c = count_order c.args.image.now _ _ c.in_ok-check.ensures (sym c.in_order.ensures ∙ c.if-not-in_order.true)

pub count_members-requires : goal.count_members-requires
count_members-requires c = accepted_image _ _ c.in_ok-check.ensures (bytes_of _ (λ i. (c.type_inv.image i).fits))

pub returns : goal.returns
returns c = count-done c.args.image.now _ _ c.in_ok-check.ensures (sym c.in_order.ensures ∙ c.if-not-in_order.false) c.count_members.ensures.0
