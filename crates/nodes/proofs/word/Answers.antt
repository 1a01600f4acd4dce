-- `nodes::word` meets its contract. Assumes nothing.
use mathlib.Core.Path.{◌≡◌, ap}
use mathlib.Core.List.{List}
use Prim.Native.Nat.{ℕ, ◌+◌, ◌*◌}
use native.Mathlib.Omega.{arith}
use lib.ListN.{get_or}
use Rattle.nodes.specs.Words.{half_at, word_at}
use Rattle.nodes.proofs.word.Goals as goal

-- eight bytes are two halves
two_halves : (l : List ℕ) (i : ℕ) → word_at l i ≡ half_at l i * 4294967296 + half_at l (i + 4)
unfolding half_at word_at
two_halves l i =
    let e₁ : i + 4 + 1 ≡ i + 5 = omega arith in
    let e₂ : i + 4 + 2 ≡ i + 6 = omega arith in
    let e₃ : i + 4 + 3 ≡ i + 7 = omega arith in
    omega (arith, ap (λ (k : ℕ). get_or l k 0) e₁, ap (λ (k : ℕ). get_or l k 0) e₂, ap (λ (k : ℕ). get_or l k 0) e₃)

pub returns : goal.returns
returns c = omega (arith, two_halves c.args.s.now c.args.at, c.half.ensures.0, c.half-2.ensures.0)
