-- The largest of some numbers, and of the records of some keys.
-- Assumes nothing.
use mathlib.Core.Path.{◌≡◌, refl, ap, ◌∙◌}
use mathlib.Core.List.Memᴰ
use mathlib.Core.List.{List, [], ◌∷◌, ◌++◌, map, map-append, Memᴰ}
use mathlib.Core.Logic.{⊎_elim}
use Prim.Native.Nat.{ℕ, ◌≤◌, max}
use native.Mathlib.Omega.{arith}
use Rattle.format.specs.Seq.{largest}
use Rattle.format.specs.Scan.{largest_record, record_of}

-- ---- of numbers

-- no number is above it
pub le_largest : (x : ℕ) (xs : List ℕ) → Memᴰ x xs → x ≤ largest xs
unfolding largest
le_largest x [] m = absurd (Memᴰ.not-nil m)
le_largest x (y ∷ xs) m = ⊎_elim (λ (e : x ≡ y). omega arith) (λ (t : Memᴰ x xs). omega (arith, le_largest x xs t)) (Memᴰ.cases_cons m)

-- of two lists, the larger of both
largest-append : (a b : List ℕ) → largest (a ++ b) ≡ max (largest a) (largest b)
unfolding largest
largest-append [] b = omega arith
largest-append (x ∷ a) b = omega (arith, largest-append a b)

-- of numbers that a function gives: a bound of each is one of the largest
pub map_le : (f : ℕ → ℕ) (m : ℕ) (l : List ℕ) → ((k : ℕ) → Memᴰ k l → f k ≤ m) → largest (map f l) ≤ m
unfolding largest
map_le f m [] h = omega arith
map_le f m (x ∷ l) h = omega (arith, h x (Memᴰ.head refl), map_le f m l (λ k t. h k (Memᴰ.tail t)))

-- ---- of records

module _ (img records : List ℕ) where
  -- of two lists of keys, the larger of both
  pub largest_record_append : (a b : List ℕ) → largest_record img records (a ++ b) ≡ max (largest_record img records a) (largest_record img records b)
  unfolding largest_record
  largest_record_append a b = ap largest (map-append (record_of img records) a b) ∙ largest-append (map (record_of img records) a) (map (record_of img records) b)

  -- of no key, 0
  pub largest_record_none : {keys : List ℕ} → keys ≡ [] → largest_record img records keys ≡ 0
  unfolding largest_record largest
  largest_record_none e = ap (λ (l : List ℕ). largest (map (record_of img records) l)) e

  -- of one key, its own
  pub largest_record_one : (key : ℕ) → largest_record img records (key ∷ []) ≡ record_of img records key
  unfolding largest_record largest
  largest_record_one key = omega arith
