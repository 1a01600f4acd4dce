-- Byte sequences that agree in 64 bytes from a place on: the same bytes, numbers and pairs there.
-- Assumes nothing.
use mathlib.Core.Path.{◌≡◌, sym, ap, ap₂, ◌∙◌}
use mathlib.Core.List.{List, flat_map}
use Prim.Native.Nat.{ℕ, ◌+◌, ◌-◌, ◌*◌, ◌≤◌, ◌<◌}
use native.Mathlib.Omega.{arith}
use lib.ListN.{get_or, take, drop}
use lib.Seq.{get_or-take, get_or-drop, drop-drop}
use Rattle.format.specs.Page.{number_at, pairs_at, pairs_of}
use Rattle.format.proofs.Lists.{drop-take}

module _ (x y : List ℕ) (p : ℕ) (e : take 64 (drop p y) ≡ take 64 (drop p x)) where
  pub byte_same : (i : ℕ) → p ≤ i → i < p + 64 → get_or y i 0 ≡ get_or x i 0
  byte_same i lo hi = sym (at y) ∙ ap (λ (l : List ℕ). get_or l (i - p) 0) e ∙ at x
    where
      at : (l : List ℕ) → get_or (take 64 (drop p l)) (i - p) 0 ≡ get_or l i 0
      at l = let n : p + (i - p) ≡ i = omega arith in get_or-take 64 (drop p l) (i - p) 0 (omega arith) ∙ get_or-drop p l (i - p) 0 ∙ ap (λ (j : ℕ). get_or l j 0) n

  pub number_same : (i : ℕ) → p ≤ i → i + 1 < p + 64 → number_at y i ≡ number_at x i
  unfolding number_at
  number_same i lo hi = ap₂ (λ (m n : ℕ). 256 * m + n) (byte_same i lo (omega arith)) (byte_same (i + 1) (omega arith) hi)

  -- where a page stands there
  pub pairs_same : pairs_at y p ≡ pairs_at x p
  pairs_same = ap (flat_map pairs_of) (part y ∙ ap (λ (l : List ℕ). drop 4 l) e ∙ sym (part x))
    where
      part : (l : List ℕ) → take 60 (drop (p + 4) l) ≡ drop 4 (take 64 (drop p l))
      part l = ap (take 60) (sym (drop-drop 4 p l)) ∙ sym (drop-take 4 64 (drop p l))
