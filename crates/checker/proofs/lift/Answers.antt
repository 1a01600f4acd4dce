-- `checker::lift` meets its contract. Assumes nothing.
use Rattle.std.proofs.lemmas.Result.{err_from_is_err_and}
use Rattle.checker.proofs.After.{accepted_lift, accepted_long, refused_lift}
use Rattle.checker.proofs.lift.Goals as goal

pub returns-in_err-check : goal.returns-in_err-check
returns-in_err-check c =
    let p = err_from_is_err_and c.from_residual.result c.from_residual.ensures.1 in
    rw (p.1, p.2) (refused_lift _ _ c.in_err-check.ensures)

pub lift-requires : goal.lift-requires
lift-requires c = accepted_long _ _ c.in_ok-check.ensures

pub returns : goal.returns
returns c = accepted_lift _ _ c.in_ok-check.ensures _ c.lift.ensures.0
