-- `image_writer::planned` meets its contract. The invariant is `Planning`. Assumes nothing.
use Prim.Native.Nat.{◌+◌, ◌^◌, ◌≤◌, ◌<◌}
use native.Mathlib.Omega.{arith}
use Rattle.format.proofs.Lists.{all_of}
use Rattle.image_writer.proofs.Numbers.{numbers-set}
use Rattle.image_writer.specs.Image.{numbers_of}
use Rattle.image_writer.proofs.Planning.{planning_start, planning_few, planning_next, planning_end}
use Rattle.image_writer.proofs.planned.Goals as goal

pub loop-b-init : goal.loop-b-init
unfolding numbers_of
loop-b-init c = planning_start _ c.requires (all_of (λ key. key < 2 ^ 32) c.args.keys.now 0 (λ i. (c.type_inv.keys i).fits))

-- what the band and those below it need, by format's bound
pub overflow_add-pages : goal.overflow_add-pages
overflow_add-pages c =
    let few : c.loop-b.pages + c.count_band-band.result.pages ≤ 384 = planning_few _ _ _ _ _ _ c.loop-b.invariant _ _ c.loop-b-test.true c.count_band-band.ensures in
    record { fits = omega (arith, few, c.from-pages.ensures) }

pub loop-b-preserved : goal.loop-b-preserved
loop-b-preserved c = rw (c.from-pages.ensures, c.from-n.ensures, numbers-set) (planning_next _ _ _ _ _ _ c.loop-b.invariant _ _ c.loop-b-test.true c.count_band-band.ensures c.count_band-band.auto.keys)

pub returns : goal.returns
returns c = planning_end _ _ _ _ _ _ _ c.loop-b.invariant c.loop-b-test.false
