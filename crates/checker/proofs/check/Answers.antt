-- `checker::check` meets its contract. Assumes nothing.
use Rattle.std.proofs.lemmas.Result.{err_from_is_err_and}
use Rattle.checker.proofs.Images.{header_refused, sized, bands_refused, accepted}
use Rattle.checker.proofs.check.Goals as goal

pub returns-in_err-header_refusal : goal.returns-in_err-header_refusal
returns-in_err-header_refusal c =
    let p = err_from_is_err_and c.from_residual.result c.from_residual.ensures.1 in
    rw (p.1, p.2) (header_refused _ _ c.in_err-header_refusal.ensures)

pub bands_refusal-requires : goal.bands_refusal-requires
bands_refusal-requires c = sized _ c.in_ok-header_refusal.ensures

pub returns-in_err-bands_refusal : goal.returns-in_err-bands_refusal
returns-in_err-bands_refusal c =
    let p = err_from_is_err_and c.from_residual-in_err-bands_refusal.result c.from_residual-in_err-bands_refusal.ensures.1 in
    rw (p.1, p.2) (bands_refused _ c.in_ok-header_refusal.ensures _ c.in_err-bands_refusal.ensures)

pub key_count-requires : goal.key_count-requires
key_count-requires c = (sized _ c.in_ok-header_refusal.ensures).long

pub returns : goal.returns
returns c = accepted _ c.in_ok-header_refusal.ensures c.in_ok-bands_refusal.ensures _ c.key_count.ensures.0
