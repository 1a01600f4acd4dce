-- Sums over the first pages of a band.
-- Assumes nothing.
use mathlib.Core.Path.{◌≡◌, refl, ap, ◌∙◌}
use mathlib.Core.List.{map}
use Prim.Native.Nat.{ℕ, zero, suc, ◌+◌, ◌≤◌, ◌<◌}
use native.Mathlib.Nat.{add-suc, add-zero, zero-add}
use native.Mathlib.Omega.{arith}
use Rattle.format.specs.Seq.{numbers_from, total, up_to}
use Rattle.format.proofs.Lists.{total_next}

-- a sum over the first pages, and one page more
pub sum_next : (f : ℕ → ℕ) (i : ℕ) → total (map f (up_to (suc i))) ≡ total (map f (up_to i)) + f i
unfolding up_to
sum_next f i = total_next f 0 i ∙ ap (λ (n : ℕ). total (map f (numbers_from 0 i)) + f n) (zero-add i)

-- and over none
pub sum_none : (f : ℕ → ℕ) → total (map f (up_to 0)) ≡ 0
unfolding up_to numbers_from total
sum_none f = refl

-- numbers that are each no greater have no greater a sum
pub sum_le : (f g : ℕ → ℕ) (n : ℕ) → ((i : ℕ) → i < n → f i ≤ g i) → total (map f (up_to n)) ≤ total (map g (up_to n))
sum_le f g zero h = omega (arith, sum_none f, sum_none g)
sum_le f g (suc n) h = omega (arith, sum_next f n, sum_next g n, h n (omega arith), sum_le f g n (λ i k. h i (omega arith)))

-- it never falls
pub sum_grows : (f : ℕ → ℕ) (i n : ℕ) → total (map f (up_to i)) ≤ total (map f (up_to (i + n)))
sum_grows f i zero = omega (arith, ap (λ (j : ℕ). total (map f (up_to j))) (add-zero i))
sum_grows f i (suc n) = omega (arith, ap (λ (j : ℕ). total (map f (up_to j))) (add-suc i n), sum_next f (i + n), sum_grows f i n)

-- numbers of at least 1 have a sum of at least so many
pub sum_some : (f : ℕ → ℕ) (n : ℕ) → ((i : ℕ) → i < n → 1 ≤ f i) → n ≤ total (map f (up_to n))
sum_some f zero h = omega arith
sum_some f (suc n) h = omega (arith, sum_next f n, h n (omega arith), sum_some f n (λ i k. h i (omega arith)))
