-- `query::lookup` meets its contract. Assumes nothing.
use Rattle.std.proofs.lemmas.Result.{err_from_is_err_and}
use Rattle.checker.proofs.After.{accepted_image}
use Rattle.nodes.proofs.Numbers.{bytes_of}
use Rattle.query.proofs.Jobs.{lookup_refused, lookup_agrees}
use Rattle.query.proofs.lookup.Goals as goal

pub returns-in_err-check : goal.returns-in_err-check
returns-in_err-check c =
    let p = err_from_is_err_and c.from_residual.result c.from_residual.ensures.1 in
    rw (p.1, p.2) (lookup_refused _ _ _ _ c.in_err-check.ensures)

pub lookup_accepted-requires : goal.lookup_accepted-requires
lookup_accepted-requires c = accepted_image _ _ c.in_ok-check.ensures (bytes_of _ (λ i. (c.type_inv.image i).fits))

pub returns : goal.returns
returns c = lookup_agrees c.args.image.now _ _ _ (accepted_image _ _ c.in_ok-check.ensures (bytes_of _ (λ i. (c.type_inv.image i).fits))) c.lookup_accepted.ensures
