-- `report::put_field` meets its contract. Assumes nothing.
use native.Mathlib.Omega.{arith}
use Rattle.report.proofs.Puts.{put_field, field_room}
use Rattle.report.proofs.put_field.Goals as goal

pub bounds-out-next : goal.bounds-out-next
bounds-out-next c =
    let p = c.put_digits-next in
    field_room c.args.out.now p.new.out c.args.at c.args.n p.result p.ensures.0 p.ensures.1 c.requires.0

pub overflow_add-result : goal.overflow_add-result
overflow_add-result c =
    let p = c.put_digits-next in
    omega (arith, field_room c.args.out.now p.new.out c.args.at c.args.n p.result p.ensures.0 p.ensures.1 c.requires.0)

pub returns : goal.returns
returns c =
    let p = c.put_digits-next in
    put_field c.args.out.now p.new.out c.args.at c.args.n c.args.end p.result p.ensures.0 p.ensures.1
