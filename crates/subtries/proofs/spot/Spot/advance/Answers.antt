-- `subtries::spot::Spot::advance` meets its contract. Assumes nothing.
use mathlib.Core.Path.{refl, ap, ◌∙◌}
use native.Mathlib.Omega.{arith}
use lib.Count.{ones}
use Rattle.subtries.proofs.Single.{path_read, path_next}
use Rattle.subtries.proofs.Spots.{bytes_fit, part_is, part_length, start_fits, room₁, room₂, room₃, subtrie_read, next_spot, link_small}
use Rattle.subtries.proofs.spot.Spot.advance.Goals as goal

pub overflow_add-bytes : goal.overflow_add-bytes
overflow_add-bytes c = let p = c.requires in omega (arith, bytes_fit p.0 p.1 p.2 p.3)

pub slice_bounds-bytes-end : goal.slice_bounds-bytes-end
slice_bounds-bytes-end c = let p = c.requires in omega (arith, bytes_fit p.0 p.1 p.2 p.3)

pub node-one-requires : goal.node-one-requires
node-one-requires c =
    let p = c.requires in
    let e = part_is c.args.image.now c.args.self.now.at in
    (part_length p.0 p.1 p.2 p.3 e, start_fits p.0 p.1 p.2 p.3 e p.3.start₀)

pub node-two-requires : goal.node-two-requires
node-two-requires c =
    let p = c.requires in
    let e = part_is c.args.image.now c.args.self.now.at in
    (part_length p.0 p.1 p.2 p.3 e, start_fits p.0 p.1 p.2 p.3 e p.3.start₁)

pub node-three-requires : goal.node-three-requires
node-three-requires c =
    let p = c.requires in
    let e = part_is c.args.image.now c.args.self.now.at in
    (part_length p.0 p.1 p.2 p.3 e, start_fits p.0 p.1 p.2 p.3 e p.3.start₂)

pub node-four-requires : goal.node-four-requires
node-four-requires c =
    let p = c.requires in
    let e = part_is c.args.image.now c.args.self.now.at in
    (part_length p.0 p.1 p.2 p.3 e, start_fits p.0 p.1 p.2 p.3 e p.3.start₃)

pub overflow_add-self-then-three-ne3-3 : goal.overflow_add-self-then-three-ne3-3
overflow_add-self-then-three-ne3-3 c =
    let p = c.requires in
    let e = part_is c.args.image.now c.args.self.now.at in
    omega (arith, start_fits p.0 p.1 p.2 p.3 e p.3.start₃)

pub overflow_add-self-then-three-ne3-4 : goal.overflow_add-self-then-three-ne3-4
overflow_add-self-then-three-ne3-4 c =
    let p = c.requires in
    omega (arith, link_small p.0 p.1 p.2 p.3, c.on_bits.ensures.1)

pub returns-then-three-ne3 : goal.returns-then-three-ne3
returns-then-three-ne3 c =
    let p = c.requires in
    let e = part_is c.args.image.now c.args.self.now.at in
    let e₁ = c.node-one.ensures.0 in
    let e₂ = c.node-two.ensures.0 in
    let e₃ = c.node-three.ensures.0 in
    let e₄ = c.node-four.ensures.0 in
    let o = c.on_bits.ensures.0 in (
      path_read p.0 p.1 p.2 p.3 e e₁ e₂ e₃ e₄ c.if-one-ne3.true c.if-two-ne3.true c.if-three-ne3.true c.path_set.ensures,
      path_next p.0 p.1 p.2 p.3 e e₁ e₂ e₃ e₄ c.if-one-ne3.true c.if-two-ne3.true c.if-three-ne3.true c.path_set.ensures refl refl refl refl refl refl refl o refl,
    )

pub next_level-two-requires : goal.next_level-two-requires
next_level-two-requires c =
    let p = c.requires in
    let e = part_is c.args.image.now c.args.self.now.at in
    (part_length p.0 p.1 p.2 p.3 e, start_fits p.0 p.1 p.2 p.3 e p.3.start₁, omega arith, omega arith, room₁ p.0 p.1 p.2 p.3 e c.node-one.ensures.0)

pub next_level-four-requires : goal.next_level-four-requires
next_level-four-requires c =
    let p = c.requires in
    let e = part_is c.args.image.now c.args.self.now.at in
    (part_length p.0 p.1 p.2 p.3 e, start_fits p.0 p.1 p.2 p.3 e p.3.start₂, omega arith, omega arith, room₂ p.0 p.1 p.2 p.3 e c.node-one.ensures.0 c.next_level-two.ensures.0)

pub next_level-last-requires : goal.next_level-last-requires
next_level-last-requires c =
    let p = c.requires in
    let e = part_is c.args.image.now c.args.self.now.at in
    (part_length p.0 p.1 p.2 p.3 e, start_fits p.0 p.1 p.2 p.3 e p.3.start₃, omega arith, omega arith, room₃ p.0 p.1 p.2 p.3 e c.node-one.ensures.0 c.next_level-two.ensures.0 c.next_level-four.ensures.0)

pub overflow_add-self-3 : goal.overflow_add-self-3
overflow_add-self-3 c =
    let p = c.requires in
    omega (arith, link_small p.0 p.1 p.2 p.3, c.ones_in.ensures.1)

pub returns : goal.returns
returns c =
    let p = c.requires in
    let e = part_is c.args.image.now c.args.self.now.at in
    let e₁ = c.node-one.ensures.0 in
    let e₂ = c.next_level-two.ensures in
    let e₃ = c.next_level-four.ensures in
    let e₄ = c.next_level-last.ensures in
    let o = c.ones_in.ensures.0 ∙ ap ones c.from.ensures in (
      subtrie_read p.0 p.1 p.2 p.3 e e₁ e₂.0 e₃.0 e₄.0,
      next_spot p.0 p.1 p.2 p.3 e e₁ e₂.0 e₃.0 e₄.0 refl refl refl refl e₂.2 e₃.2 e₄.2 o refl,
    )
