-- `subtries::spot::Spot::skip` meets its contract. Assumes nothing.
use mathlib.Core.Path.{refl}
use native.Mathlib.Omega.{arith}
use Rattle.subtries.proofs.Skips.{fits₀, fits₁, fits₂, fits₃, spot_later}
use Rattle.subtries.proofs.Spots.{bytes_fit, link_small, part_is, part_length, start_fits}
use Rattle.subtries.proofs.spot.Spot.skip.Goals as goal

pub overflow_add-bytes : goal.overflow_add-bytes
overflow_add-bytes c = let p = c.requires in omega (arith, bytes_fit p.0 p.1 p.2 p.3)

pub slice_bounds-bytes-end : goal.slice_bounds-bytes-end
slice_bounds-bytes-end c = let p = c.requires in omega (arith, bytes_fit p.0 p.1 p.2 p.3)

pub on_bits_from-two-requires : goal.on_bits_from-two-requires
on_bits_from-two-requires c =
    let p = c.requires in
    let e = part_is c.args.image.now c.args.self.at in
    (part_length p.0 p.1 p.2 p.3 e, start_fits p.0 p.1 p.2 p.3 e p.3.start₀, omega (arith, fits₀ p.0 p.1 p.2 p.3 e p.4 p.5))

pub on_bits_from-three-requires : goal.on_bits_from-three-requires
on_bits_from-three-requires c =
    let p = c.requires in
    let e = part_is c.args.image.now c.args.self.at in
    (part_length p.0 p.1 p.2 p.3 e, start_fits p.0 p.1 p.2 p.3 e p.3.start₁, omega (arith, fits₁ p.0 p.1 p.2 p.3 e p.4 p.5 c.on_bits_from-two.ensures.0))

pub on_bits_from-four-requires : goal.on_bits_from-four-requires
on_bits_from-four-requires c =
    let p = c.requires in
    let e = part_is c.args.image.now c.args.self.at in
    (part_length p.0 p.1 p.2 p.3 e, start_fits p.0 p.1 p.2 p.3 e p.3.start₂, omega (arith, fits₂ p.0 p.1 p.2 p.3 e p.4 p.5 c.on_bits_from-two.ensures.0 c.on_bits_from-three.ensures.0))

pub on_bits_from-out-requires : goal.on_bits_from-out-requires
on_bits_from-out-requires c =
    let p = c.requires in
    let e = part_is c.args.image.now c.args.self.at in
    (part_length p.0 p.1 p.2 p.3 e, start_fits p.0 p.1 p.2 p.3 e p.3.start₃, omega (arith, fits₃ p.0 p.1 p.2 p.3 e p.4 p.5 c.on_bits_from-two.ensures.0 c.on_bits_from-three.ensures.0 c.on_bits_from-four.ensures.0))

pub overflow_add-result : goal.overflow_add-result
overflow_add-result c =
    let p = c.requires in
    let e = part_is c.args.image.now c.args.self.at in
    omega (arith, fits₀ p.0 p.1 p.2 p.3 e p.4 p.5)

pub overflow_add-result-2 : goal.overflow_add-result-2
overflow_add-result-2 c =
    let p = c.requires in
    let e = part_is c.args.image.now c.args.self.at in
    omega (arith, fits₁ p.0 p.1 p.2 p.3 e p.4 p.5 c.on_bits_from-two.ensures.0)

pub overflow_add-result-3 : goal.overflow_add-result-3
overflow_add-result-3 c =
    let p = c.requires in
    let e = part_is c.args.image.now c.args.self.at in
    omega (arith, fits₂ p.0 p.1 p.2 p.3 e p.4 p.5 c.on_bits_from-two.ensures.0 c.on_bits_from-three.ensures.0)

pub overflow_add-result-4 : goal.overflow_add-result-4
overflow_add-result-4 c =
    let p = c.requires in
    let e = part_is c.args.image.now c.args.self.at in
    omega (arith, fits₃ p.0 p.1 p.2 p.3 e p.4 p.5 c.on_bits_from-two.ensures.0 c.on_bits_from-three.ensures.0 c.on_bits_from-four.ensures.0)

pub overflow_add-result-5 : goal.overflow_add-result-5
overflow_add-result-5 c =
    let p = c.requires in
    omega (arith, link_small p.0 p.1 p.2 p.3, c.on_bits_from-out.ensures.1)

pub returns : goal.returns
returns c =
    let p = c.requires in
    let e = part_is c.args.image.now c.args.self.at in
    (spot_later p.0 p.1 p.2 p.3 e p.4 p.5 c.on_bits_from-two.ensures.0 c.on_bits_from-three.ensures.0 c.on_bits_from-four.ensures.0 c.on_bits_from-out.ensures.0 refl refl refl refl refl refl refl refl, refl)
