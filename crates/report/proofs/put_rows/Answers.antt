-- `report::put_rows` meets its contract. The loop's invariant: the lines of the keys passed are written. Assumes nothing.
use mathlib.Core.Path.{ap}
use native.Mathlib.Omega.{arith}
use lib.Seq.{take_all}
use Rattle.format.specs.Text.{rows}
use Rattle.report.proofs.Puts.{put_next, put_same, put_start}
use Rattle.report.proofs.put_rows.Goals as goal

pub loop-i-init : goal.loop-i-init
loop-i-init c = put_start _ c.args.keys.now _

pub put_row-next-requires : goal.put_row-next-requires
put_row-next-requires c = (omega (arith, c.loop-i.invariant.place, c.loop-i.invariant.few), omega arith)

pub loop-i-preserved : goal.loop-i-preserved
loop-i-preserved c = put_next _ _ _ c.args.keys.now _ _ c.loop-i.i _ (omega arith) c.loop-i.invariant c.put_row-next.ensures

pub returns : goal.returns
returns c = put_same _ _ _ _ _ _ _ _ (ap (rows 0) (take_all c.loop-i.i c.args.keys.now (omega arith))) (omega arith) c.loop-i.invariant
