-- `climb::select::select` meets its contract: six times the half of the part that has the on bit. Assumes nothing.
use native.Mathlib.Omega.{arith}
use Rattle.climb.proofs.Selecting.{counted, half_32, half_16, half_8, half_4, half_2, half_1}
use Rattle.climb.proofs.select.select.Goals as goal

pub halve-requires-2 : goal.halve-requires-2
halve-requires-2 c =
    let k = counted c.ranges.w.fits c.sums-twos.ensures c.sums-fours.ensures c.sums-eights.ensures c.sums-sixteens.ensures c.sums-halves.ensures in
    let p₁ = half_32 k c.ranges.w.fits c.requires c.halve.ensures in
    omega (arith, p₁.fits)

pub halve-requires-3 : goal.halve-requires-3
halve-requires-3 c =
    let k = counted c.ranges.w.fits c.sums-twos.ensures c.sums-fours.ensures c.sums-eights.ensures c.sums-sixteens.ensures c.sums-halves.ensures in
    let p₁ = half_32 k c.ranges.w.fits c.requires c.halve.ensures in
    let p₂ = half_16 k p₁ c.halve-2.ensures in
    omega (arith, p₂.fits)

pub halve-requires-4 : goal.halve-requires-4
halve-requires-4 c =
    let k = counted c.ranges.w.fits c.sums-twos.ensures c.sums-fours.ensures c.sums-eights.ensures c.sums-sixteens.ensures c.sums-halves.ensures in
    let p₁ = half_32 k c.ranges.w.fits c.requires c.halve.ensures in
    let p₂ = half_16 k p₁ c.halve-2.ensures in
    let p₃ = half_8 k p₂ c.halve-3.ensures in
    omega (arith, p₃.fits)

pub halve-requires-5 : goal.halve-requires-5
halve-requires-5 c =
    let k = counted c.ranges.w.fits c.sums-twos.ensures c.sums-fours.ensures c.sums-eights.ensures c.sums-sixteens.ensures c.sums-halves.ensures in
    let p₁ = half_32 k c.ranges.w.fits c.requires c.halve.ensures in
    let p₂ = half_16 k p₁ c.halve-2.ensures in
    let p₃ = half_8 k p₂ c.halve-3.ensures in
    let p₄ = half_4 k p₃ c.halve-4.ensures in
    omega (arith, p₄.fits)

pub halve-requires-6 : goal.halve-requires-6
halve-requires-6 c =
    let k = counted c.ranges.w.fits c.sums-twos.ensures c.sums-fours.ensures c.sums-eights.ensures c.sums-sixteens.ensures c.sums-halves.ensures in
    let p₁ = half_32 k c.ranges.w.fits c.requires c.halve.ensures in
    let p₂ = half_16 k p₁ c.halve-2.ensures in
    let p₃ = half_8 k p₂ c.halve-3.ensures in
    let p₄ = half_4 k p₃ c.halve-4.ensures in
    let p₅ = half_2 k p₄ c.halve-5.ensures in
    omega (arith, p₅.fits)

pub returns : goal.returns
returns c =
    let k = counted c.ranges.w.fits c.sums-twos.ensures c.sums-fours.ensures c.sums-eights.ensures c.sums-sixteens.ensures c.sums-halves.ensures in
    let p₁ = half_32 k c.ranges.w.fits c.requires c.halve.ensures in
    let p₂ = half_16 k p₁ c.halve-2.ensures in
    let p₃ = half_8 k p₂ c.halve-3.ensures in
    let p₄ = half_4 k p₃ c.halve-4.ensures in
    let p₅ = half_2 k p₄ c.halve-5.ensures in
    half_1 c.ranges.w.fits p₅ c.halve-6.ensures
