-- `pages::Band::number_at` meets its contract. Assumes nothing.
use mathlib.Core.Path.{ap₂, ◌∙◌}
use Prim.Native.Nat.{ℕ, ◌+◌, ◌*◌}
use native.Mathlib.Omega.{arith}
use Rattle.format.specs.Page.{number_at}
use Rattle.pages.proofs.Opened.{number_is, in_image}
use Rattle.pages.proofs.Band.number_at.Goals as goal

pub overflow_add-self : goal.overflow_add-self
overflow_add-self c = let p = c.requires in omega (arith, in_image p.0 p.1 p.2)

pub overflow_mul-self : goal.overflow_mul-self
overflow_mul-self c = let p = c.requires in omega (arith, in_image p.0 p.1 p.2)

pub overflow_add-self-2 : goal.overflow_add-self-2
overflow_add-self-2 c = let p = c.requires in omega (arith, in_image p.0 p.1 p.2, c.offset.ensures.1)

pub number-requires : goal.number-requires
number-requires c = let p = c.requires in omega (arith, in_image p.0 p.1 p.2, c.offset.ensures.1)

pub returns : goal.returns
returns c =
    let e = number_is c.requires.0 c.requires.1 c.requires.2 in
    (c.number.ensures.0 ∙ ap₂ (λ (n f : ℕ). number_at c.args.image.now (64 * n + f)) e c.offset.ensures.0, c.number.ensures.1)
