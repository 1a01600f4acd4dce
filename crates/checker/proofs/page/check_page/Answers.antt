-- `checker::page::check_page` meets its contract: at each return the questions before got a yes. Assumes nothing.
use Rattle.std.proofs.lemmas.Result.{err_from_is_err_and}
use Rattle.checker.proofs.Pages.{wrong_t, wrong_b, no_roots, roots_yes, by_shape}
use Rattle.checker.proofs.page.check_page.Goals as goal

pub returns-then-number-t : goal.returns-then-number-t
returns-then-number-t c = record { first_no_is = wrong_t _ _ _ _ _ _ _ c.number.ensures.0 c.if-number-t.true; counted = tt; bounded = tt }

pub returns-then-number-b : goal.returns-then-number-b
returns-then-number-b c =
    record { first_no_is = wrong_b _ _ _ _ _ _ _ c.number.ensures.0 c.if-number-t.false _ c.number-2.ensures.0 c.if-number-b.true; counted = tt; bounded = tt }

pub returns-in_err-roots_from : goal.returns-in_err-roots_from
returns-in_err-roots_from c =
    let p = err_from_is_err_and c.from_residual.result c.from_residual.ensures.1 in
    let no = no_roots _ _ _ _ _ _ _ c.number.ensures.0 c.if-number-t.false _ c.number-2.ensures.0 c.if-number-b.false _ c.in_err-roots_from.ensures in
    rw (p.1, p.2) record { first_no_is = no; counted = tt; bounded = tt }

pub check_shape-requires : goal.check_shape-requires
check_shape-requires c =
    let p = c.requires in
    let k = roots_yes _ _ c.in_ok-roots_from.ensures in
    (p.0, k.some, k.few, p.1)

pub returns : goal.returns
returns c =
    by_shape _ _ _ _ _ _ _ c.number.ensures.0 c.if-number-t.false _ c.number-2.ensures.0 c.if-number-b.false (roots_yes _ _ c.in_ok-roots_from.ensures).is _ c.check_shape.ensures
