-- `writer::list::weave_first` meets its contract. Assumes nothing.
use mathlib.Core.Path.{◌≡◌}
use native.Mathlib.Omega.{arith}
use lib.ListN.{length}
use lib.Seq.{take_all}
use Rattle.std.proofs.Common.{add-one}
use Rattle.writer.proofs.Weaving.{woven_next}
use Rattle.writer.proofs.list.weave_first.Goals as goal

pub loop-i-preserved : goal.loop-i-preserved
loop-i-preserved c = rw (c.loop-i.invariant, c.weave.ensures, add-one) (woven_next c.args.list.now c.args.keys.now c.loop-i.i _ c.loop-i-test.true c.requires)

pub returns : goal.returns
returns c =
    let all : c.loop-i.i ≡ length c.args.list.now = omega arith in
    rw (take_all c.loop-i.i c.args.list.now c.loop-i-test.false, all) at c.loop-i.invariant
