-- `header::pages_before` meets its contract. The loop's invariant: the pages of the bands passed stand before. Assumes nothing.
use mathlib.Core.Path.{◌≡◌, refl, ap}
use Prim.Native.Nat.{ℕ}
use native.Mathlib.Numerals.{add-one}
use native.Mathlib.Omega.{arith}
use Rattle.format.specs.Seq.{numbers_from, total}
use Rattle.format.specs.Image.{pages_before}
use Rattle.format.proofs.Back.{pages_before-suc}
use Rattle.header.proofs.pages_before.Goals as goal

pub loop-passed-init : goal.loop-passed-init
unfolding pages_before numbers_from total
loop-passed-init c = (omega arith, omega arith, refl, omega arith)

pub loop-passed-preserved : goal.loop-passed-preserved
loop-passed-preserved c =
    let image = c.args.image.now in
    let passed : ℕ = c.loop-passed.passed in
    (omega arith, omega arith, omega (arith, pages_before-suc image passed (omega arith), ap (pages_before image) (add-one passed)), omega arith)

pub returns : goal.returns
returns c =
    let a = c.args in
    let e : c.loop-passed.passed ≡ a.band = omega arith in
    (omega (arith, ap (pages_before a.image.now) e), omega arith)
