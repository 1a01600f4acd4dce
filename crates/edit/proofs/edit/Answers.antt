-- `edit::edit` meets its contract. Assumes nothing.
use Rattle.std.proofs.lemmas.Result.{err_from_is_err_and}
use Rattle.nodes.proofs.Numbers.{bytes_of}
use Rattle.edit.proofs.Job.{edit-by_key, edit_refused, located}
use Rattle.edit.proofs.edit.Goals as goal

-- a refused image
pub returns-in_err-found : goal.returns-in_err-found
returns-in_err-found c =
    let p = err_from_is_err_and c.from_residual.result c.from_residual.ensures.1 in
    rw (p.1, p.2) (edit_refused _ _ _ _ _ _ _ _ c.in_err-found.ensures)

-- another
pub edit_at-requires : goal.edit_at-requires
edit_at-requires c = located _ c.args.holder c.args.slot (bytes_of _ (λ i. (c.type_inv.image i).fits)) _ c.weave-key.ensures _ c.in_ok-found.ensures

pub returns : goal.returns
returns c = edit-by_key _ _ _ _ _ _ _ _ c.in_ok-found.ensures _ c.weave-key.ensures _ _ _ c.edit_at.ensures
