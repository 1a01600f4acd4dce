-- `repair::repair` meets its contract. Assumes nothing.
use mathlib.Core.Path.{ap, sym, ◌∙◌}
use native.Mathlib.Omega.{arith}
use Rattle.format.specs.Question.{returns as altered}
use Rattle.repair.proofs.RepairLaws.{refused_is, restored-given, short_is}
use Rattle.repair.proofs.repair.Goals as goal

-- ---- nothing is written

pub returns-then-out-image : goal.returns-then-out-image
returns-then-out-image c = let r = short_is _ _ c.if-out-image.true in (sym r.returned, sym r.left)

pub returns-then-not-judge : goal.returns-then-not-judge
returns-then-not-judge c =
    let r = refused_is c.args.image.now c.args.out.now (omega (arith, c.if-out-image.false)) (sym c.judge.ensures.is ∙ c.if-not-judge.true) in
    (sym r.returned, sym r.left)

-- ---- the image is repaired

pub fill-requires : goal.fill-requires
fill-requires c =
    let fine = c.if-not-judge.false in
    (record { whole = c.judge.ensures.whole fine; room = omega (arith, c.if-out-image.false) }, c.judge.ensures.noted fine)

-- ---- the answer

-- how many numbers were altered
pub returns : goal.returns
returns c =
    let g = restored-given c.args.image.now c.args.out.now (omega (arith, c.if-out-image.false)) (sym c.judge.ensures.is ∙ c.if-not-judge.false) in
    (ap altered c.fill.ensures.1 ∙ sym g.returned, c.fill.ensures.0 ∙ sym g.left)
