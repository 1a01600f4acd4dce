-- `image_writer::fill_header` meets its contract. The invariant is `Headed`. Assumes nothing.
use native.Mathlib.Omega.{arith}
use Rattle.image_writer.proofs.Numbers.{length-numbers}
use Rattle.image_writer.proofs.Header.{headed_start, headed_band, headed_end}
use Rattle.image_writer.proofs.fill_header.Goals as goal

pub loop-b-init : goal.loop-b-init
loop-b-init c =
    headed_start _ _ (omega (arith, length-numbers c.args.bands.now)) (omega (arith, c.put_number.auto.out, c.fill_start.auto.out, c.requires))

pub loop-b-preserved : goal.loop-b-preserved
loop-b-preserved c = headed_band _ _ _ _ _ _ _ c.loop-b.invariant c.loop-b-test.true c.put_number-in-loop-b.ensures c.put_number-in-loop-b-2.ensures

pub returns : goal.returns
returns c =
    headed_end _ _ _ _ c.loop-b.invariant c.args.out.now _ _ _ _ _ c.fill_start.ensures c.put_number.ensures (omega arith) c.put_number-2.ensures c.clear.ensures
