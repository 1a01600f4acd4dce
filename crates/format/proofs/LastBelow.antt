-- The last number below a bound that passes a test.
-- Assumes nothing.
use mathlib.Core.Bool.{Bool, true, false, cond}
use mathlib.Core.Path.{◌≡◌, refl, sym, ap, ap₂, ◌∙◌}
use Prim.Native.Nat.{ℕ, zero, suc, ◌≤◌, ◌<◌}
use native.Mathlib.Omega.{arith}
use native.Mathlib.Decide.{dec_lt, ℕ_discrete}
use Rattle.format.specs.Seq.{last_below}

-- the bound before, where that passes, or the last below it
last_cases : (n : ℕ) (f : ℕ → Bool) (P : ℕ → Type 0) → (f n ≡ true → P n) → (f n ≡ false → P (last_below n f)) → P (last_below (suc n) f)
unfolding last_below
last_cases n f P here there = go (f n) here there
  where
    go : (t : Bool) → (t ≡ true → P n) → (t ≡ false → P (last_below n f)) → P (cond t n (last_below n f))
    go true u v = u refl
    go false u v = v refl

-- it is below the bound, where anything is
pub last_within : (n : ℕ) (f : ℕ → Bool) → 1 ≤ n → last_below n f < n
unfolding last_below
last_within zero f h = absurd (omega arith)
last_within (suc zero) f h = last_cases 0 f (λ k. k < 1) (λ e. omega arith) (λ e. omega arith)
last_within (suc (suc n)) f h = last_cases (suc n) f (λ k. k < suc (suc n)) (λ e. omega arith) (λ e. omega (arith, last_within (suc n) f (omega arith)))

-- it is never above the bound
pub last_le : (n : ℕ) (f : ℕ → Bool) → last_below n f ≤ n
unfolding last_below
last_le zero f = omega arith
last_le (suc n) f = omega (arith, last_within (suc n) f (omega arith))

-- where one passes, the last passes
pub last_passes : (n : ℕ) (f : ℕ → Bool) (j : ℕ) → j < n → f j ≡ true → f (last_below n f) ≡ true
last_passes zero f j h e = absurd (omega arith)
last_passes (suc n) f j h e =
    last_cases n f (λ k. f k ≡ true) (λ p. p)
    (λ q. elim (ℕ_discrete j n) [
      | yes s ↦ absurd (let z : true ≡ false = sym e ∙ ap f s ∙ q in let w : ◌≡◌ {A = ℕ} 0 1 = cc in omega arith)
      | no s ↦ last_passes n f j (omega arith) e
    ])

-- so it does where it is not 0
pub last_found : (n : ℕ) (f : ℕ → Bool) → 1 ≤ last_below n f → f (last_below n f) ≡ true
unfolding last_below
last_found zero f h = absurd (omega arith)
last_found (suc n) f h = last_cases n f (λ k. 1 ≤ k → f k ≡ true) (λ e k. e) (λ e. last_found n f) h

-- none after it passes
pub last_after : (n : ℕ) (f : ℕ → Bool) (j : ℕ) → j < n → last_below n f < j → f j ≡ false
last_after zero f j h k = absurd (omega arith)
last_after (suc n) f j h k =
    last_cases n f (λ m. m < j → f j ≡ false) (λ e lt. absurd (omega arith))
    (λ e lt. elim (ℕ_discrete j n) [ yes s ↦ ap f s ∙ e | no s ↦ last_after n f j (omega arith) lt ]) k

-- it is the one that passes where none after it does
pub last_below_lem : (n : ℕ) (f : ℕ → Bool) (i : ℕ) → i < n → f i ≡ true → ((j : ℕ) → i < j → j < n → f j ≡ false) → last_below n f ≡ i
unfolding last_below
last_below_lem zero f i h yes-here no-after = absurd (omega arith)
last_below_lem (suc n) f i h yes-here no-after =
    elim (dec_lt i n) [
      | yes k ↦ rw (no-after n k (omega arith)) (last_below_lem n f i k yes-here (λ j p q. no-after j p (omega arith)))
      | no k ↦ let e : n ≡ i = omega arith in rw (ap f e ∙ yes-here) e
    ]

-- tests that agree have the same
pub last_same : (f g : ℕ → Bool) (n : ℕ) → ((i : ℕ) → i < n → f i ≡ g i) → last_below n f ≡ last_below n g
unfolding last_below
last_same f g zero h = refl
last_same f g (suc n) h = ap₂ (λ (t : Bool) (m : ℕ). cond t n m) (h n (omega arith)) (last_same f g n (λ i k. h i (omega arith)))
