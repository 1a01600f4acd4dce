-- `report::put_digits` meets its contract; the number of digits still allowed falls. Assumes nothing.
use native.Mathlib.Omega.{arith}
use mathlib.Core.Path.{ap, ◌∙◌}
use lib.ListN.{length, length-set}
use lib.Seq.{length-sets}
use Rattle.report.proofs.Digits.{fewer, put_one, put_room, put_more}
use Rattle.report.proofs.+put_digits.Goals as goal

pub shape_of-out-then-n-lt10 : goal.shape_of-out-then-n-lt10
shape_of-out-then-n-lt10 t c = simp length-set

pub returns-then-n-lt10 : goal.returns-then-n-lt10
returns-then-n-lt10 t c = put_one c.args.out.now c.args.at c.args.d c.args.n c.digit.result c.if-n-lt10.true c.digit.ensures

pub overflow_sub-d : goal.overflow_sub-d
overflow_sub-d t c = (fewer c.args.d c.args.n (omega arith) c.requires.1).0

pub put_digits-next-requires : goal.put_digits-next-requires
put_digits-next-requires t c =
    let f = fewer c.args.d c.args.n (omega arith) c.requires.1 in
    (omega arith, (omega arith, f.1))

pub bounds-out-next : goal.bounds-out-next
bounds-out-next t c =
    let p = c.put_digits-next in
    put_room c.args.out.now p.new.out c.args.at c.args.d c.args.n p.result (omega arith) c.requires.1 p.ensures.0 p.ensures.1 c.requires.0

pub overflow_add-result-2 : goal.overflow_add-result-2
overflow_add-result-2 t c =
    let p = c.put_digits-next in
    omega (arith, put_room c.args.out.now p.new.out c.args.at c.args.d c.args.n p.result (omega arith) c.requires.1 p.ensures.0 p.ensures.1 c.requires.0)

pub shape_of-out : goal.shape_of-out
shape_of-out t c = simp length-set (ap length c.put_digits-next.ensures.0 ∙ simp length-sets)

pub returns : goal.returns
returns t c =
    let p = c.put_digits-next in
    put_more c.args.out.now p.new.out c.args.at c.args.d c.args.n p.result (omega arith) c.requires.1 p.ensures.0 p.ensures.1 c.digit-2.result c.digit-2.ensures
