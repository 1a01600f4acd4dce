-- The test of question 15, by pairs of neighbours.
-- Assumes nothing.
use mathlib.Core.Path.{◌≡◌, refl, sym, ap, ◌∙◌}
use mathlib.Core.Bool.{Bool, true, ◌&&◌}
use mathlib.Core.List.{List, [], ◌∷◌}
use Prim.Native.Nat.{ℕ, ◌≤◌, ◌<◌}
use native.Mathlib.Omega.{arith}
use lib.Dec.{ltb}
use lib.ListN.{length, get_or, take, drop}
use Rattle.std.proofs.Math.Bool.{and-true, and_assoc}
use Rattle.format.specs.Writer.{ascending}

step : (l : List ℕ) → 2 ≤ length l → ascending l ≡ ltb (get_or (take 2 l) 0 0) (get_or (take 2 l) 1 0) && ascending (drop 1 l)
unfolding ascending
step [] h = absurd (omega arith)
step (x ∷ []) h = absurd (omega arith)
step (x ∷ y ∷ l) h = refl

ends : (l : List ℕ) → length l < 2 → ascending l ≡ true
unfolding ascending
ends [] h = refl
ends (x ∷ []) h = refl
ends (x ∷ y ∷ l) h = absurd (omega arith)

-- the keys are ascending if those read are, and those from the last read on
module _ (keys rest : List ℕ) (all : Bool) (same : ascending keys ≡ all && ascending rest) where
  pub tested_next : (pair after : List ℕ) → 2 ≤ length rest → pair ≡ take 2 rest → after ≡ drop 1 rest → ascending keys ≡ (all && ltb (get_or pair 0 0) (get_or pair 1 0)) && ascending after
  tested_next pair after h p a = rw (p, a) (same ∙ ap (all &&◌) (step rest h) ∙ sym (and_assoc all _ _))

  pub tested_end : length rest < 2 → all ≡ ascending keys
  tested_end h = sym (same ∙ ap (all &&◌) (ends rest h) ∙ and-true all)
