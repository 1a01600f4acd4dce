-- Lists: what the other files need beside lib.ListN.
-- Assumes nothing.
use Rattle.std.specs.Prelude.{ℕ, zero, suc, ◌+◌, max, Bool, true, false, ◌&&◌, ◌||◌, cond, eqb, ltb, List, [], ◌∷◌, ◌++◌}
use lib.ListN.{length, take, drop}

-- n numbers from i on: i, i + 1, ..
unfoldable pub numbers_from : ℕ → ℕ → List ℕ
numbers_from i zero = []
numbers_from i (suc n) = i ∷ numbers_from (suc i) n

-- 0, 1, .., n - 1
unfoldable pub up_to : ℕ → List ℕ
up_to n = numbers_from 0 n

-- the sum
unfoldable pub total : List ℕ → ℕ
total [] = 0
total (x ∷ xs) = x + total xs

-- the largest; 0 where there are none
unfoldable pub largest : List ℕ → ℕ
largest [] = 0
largest (x ∷ xs) = max x (largest xs)

-- a fact of every element, and a test of every element
abbrev pub All : {A : Type 0} → (A → Type 0) → List A → Type 0
All P [] = Unit {0}
All P (x ∷ xs) = P x × All P xs

unfoldable pub every {ℓ} : {A : Type ℓ} → (A → Bool) → List A → Bool
every f [] = true
every f (x ∷ xs) = f x && every f xs

-- x in front of xs, if the test passed
unfoldable pub cons_if : {A : Type 0} → Bool → A → List A → List A
cons_if true x xs = x ∷ xs
cons_if false x xs = xs

-- the elements that pass the test, in order (mathlib's `filter` takes a decision, not a test)
unfoldable pub select : {A : Type 0} → (A → Bool) → List A → List A
select f [] = []
select f (x ∷ xs) = cons_if (f x) x (select f xs)

-- whether x is one of the elements
unfoldable pub is_in : ℕ → List ℕ → Bool
is_in x [] = false
is_in x (y ∷ ys) = eqb x y || is_in x ys

-- how many of the numbers are smaller than x: of a list of keys, paper 01's "rank"
unfoldable pub rank_in : List ℕ → ℕ → ℕ
rank_in xs x = length (select (λ y. ltb y x) xs)

-- the last of 0, 1, .., n - 1 that passes the test; 0 where none does
unfoldable pub last_below : ℕ → (ℕ → Bool) → ℕ
last_below zero f = 0
last_below (suc n) f = cond (f n) n (last_below n f)

-- the elements with x put in after the first n of them, and without the one that stands there
abbrev pub insert_at : {A : Type 0} → ℕ → A → List A → List A
insert_at n x xs = take n xs ++ x ∷ drop n xs

abbrev pub delete_at : {A : Type 0} → ℕ → List A → List A
delete_at n xs = take n xs ++ drop (suc n) xs
