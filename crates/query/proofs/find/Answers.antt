-- `query::find` meets its contract. Assumes nothing.
use native.Mathlib.Omega.{arith}
use Rattle.std.proofs.lemmas.Result.{err_from_is_err_and}
use Rattle.checker.proofs.After.{accepted_image, returned_count}
use Rattle.nodes.proofs.Numbers.{bytes_of}
use Rattle.query.proofs.Jobs.{find_refused, find_past, find-done}
use Rattle.walk.proofs.Whole.{ready_of}
use Rattle.query.proofs.find.Goals as goal

pub returns-in_err-keys : goal.returns-in_err-keys
returns-in_err-keys c =
    let p = err_from_is_err_and c.from_residual.result c.from_residual.ensures.1 in
    rw (p.1, p.2) (find_refused c.args.image.now _ _ c.in_err-keys.ensures)

pub returns-then-keys-wide : goal.returns-then-keys-wide
returns-then-keys-wide c = find_past c.args.image.now _ _ c.in_ok-keys.ensures c.if-keys-wide.true

pub key_at-requires : goal.key_at-requires
key_at-requires c =
    let img = c.args.image.now in
    let e = c.in_ok-keys.ensures in
    let n = returned_count img _ e in
    (ready_of (accepted_image img _ e (bytes_of img (λ i. (c.type_inv.image i).fits))) (λ z. omega (arith, c.if-keys-wide.false)), omega (arith, c.if-keys-wide.false))

pub returns : goal.returns
returns c = find-done c.args.image.now _ _ c.in_ok-keys.ensures c.if-keys-wide.false c.key_at.ensures c.unweave.ensures.0 c.unweave.ensures.1
