-- Lists: a fact of every element, tests of every element, sums, runs of numbers, pieces of lists.
-- Assumes nothing.
use mathlib.Core.Path.{◌≡◌, refl, sym, ap, ap₂, ◌∙◌, subst}
use mathlib.Core.Bool.{Bool, true, false, ◌&&◌, ◌||◌}
use mathlib.Core.List.{List, [], ◌∷◌, ◌++◌, map, flat_map, head-eq_of_cons-eq, tail-eq_of_cons-eq}
use Prim.Native.Nat.{ℕ, zero, suc, ◌+◌, ◌-◌, ◌*◌, ◌≤◌, ◌<◌}
use native.Mathlib.Nat.{add-zero, add-suc, suc-add, sub-zero, suc-sub-suc, zero-add, zero-sub}
use native.Mathlib.Omega.{arith}
use native.Mathlib.Decide.{ℕ_discrete}
use lib.ListN.{length, get_or, set, take, drop, length-append}
use lib.Seq.{take-nil}
use Rattle.format.specs.Seq.{All, every, numbers_from, total, up_to}

-- ---- tests

pub and_left : (a b : Bool) → a && b ≡ true → a ≡ true
and_left true b h = refl
and_left false b h = h

pub and_right : (a b : Bool) → a && b ≡ true → b ≡ true
and_right true b h = h
and_right false b h = cc

pub and_both : {a b : Bool} → a ≡ true → b ≡ true → a && b ≡ true
and_both h k = ap₂ ◌&&◌ h k

pub and_no : (a b : Bool) → a && b ≡ false → b ≡ true → a ≡ false
and_no true b h k = sym k ∙ h
and_no false b h k = refl

pub or_first : (a b : Bool) → a ≡ true → a || b ≡ true
or_first a b h = ap (◌|| b) h

pub or_second : (a b : Bool) → b ≡ true → a || b ≡ true
or_second true b h = refl
or_second false b h = h

pub or_rest : (a b : Bool) → a || b ≡ true → a ≡ false → b ≡ true
or_rest a b h e = sym (ap (◌|| b) e) ∙ h

-- ---- a fact of every element

module _ {A : Type 0} where
  pub all_append : (P : A → Type 0) (a b : List A) → All P a → All P b → All P (a ++ b)
  all_append P [] b h k = k
  all_append P (x ∷ a) b h k = (h.0, all_append P a b h.1 k)

  pub all_left : (P : A → Type 0) (a b : List A) → All P (a ++ b) → All P a
  all_left P [] b h = tt
  all_left P (x ∷ a) b h = (h.0, all_left P a b h.1)

  pub all_right : (P : A → Type 0) (a b : List A) → All P (a ++ b) → All P b
  all_right P [] b h = h
  all_right P (x ∷ a) b h = all_right P a b h.1

  pub all_to : (P Q : A → Type 0) → ((x : A) → P x → Q x) → (a : List A) → All P a → All Q a
  all_to P Q f [] h = tt
  all_to P Q f (x ∷ a) h = (f x h.0, all_to P Q f a h.1)

  pub all_take : (P : A → Type 0) (n : ℕ) (l : List A) → All P l → All P (take n l)
  all_take P zero l h = tt
  all_take P (suc n) [] h = tt
  all_take P (suc n) (x ∷ l) h = (h.0, all_take P n l h.1)

  pub all_drop : (P : A → Type 0) (n : ℕ) (l : List A) → All P l → All P (drop n l)
  all_drop P zero l h = h
  all_drop P (suc n) [] h = tt
  all_drop P (suc n) (x ∷ l) h = all_drop P n l h.1

  pub all_at : (P : A → Type 0) (l : List A) (i : ℕ) (d : A) → All P l → i < length l → P (get_or l i d)
  all_at P [] i d h k = absurd (omega arith)
  all_at P (x ∷ l) zero d h k = h.0
  all_at P (x ∷ l) (suc i) d h k = all_at P l i d h.1 (omega arith)

  -- the same where the default has it too
  pub all_get : (P : A → Type 0) (l : List A) (i : ℕ) (d : A) → P d → All P l → P (get_or l i d)
  all_get P [] i d k h = k
  all_get P (x ∷ l) zero d k h = h.0
  all_get P (x ∷ l) (suc i) d k h = all_get P l i d k h.1

  pub all_set : (P : A → Type 0) (l : List A) (i : ℕ) (x : A) → All P l → P x → All P (set l i x)
  all_set P [] i x a h = tt
  all_set P (y ∷ l) zero x a h = (h, a.1)
  all_set P (y ∷ l) (suc i) x a h = (a.0, all_set P l i x a.1 h)

  -- back from the places
  pub all_of : (P : A → Type 0) (l : List A) (d : A) → ((i : ℕ) → P (get_or l i d)) → All P l
  all_of P [] d h = tt
  all_of P (x ∷ l) d h = (h 0, all_of P l d (λ i. h (suc i)))

  pub every_all : (f : A → Bool) (l : List A) → every f l ≡ true → All (λ x. f x ≡ true) l
  unfolding every
  every_all f [] h = tt
  every_all f (x ∷ l) h = (and_left (f x) (every f l) h, every_all f l (and_right (f x) (every f l) h))

  pub all_every : (f : A → Bool) (l : List A) → All (λ x. f x ≡ true) l → every f l ≡ true
  unfolding every
  all_every f [] h = refl
  all_every f (x ∷ l) h = and_both h.0 (all_every f l h.1)

  -- tests that agree on a list give the same
  pub every_same : (f g : A → Bool) (l : List A) → All (λ x. f x ≡ g x) l → every f l ≡ every g l
  unfolding every
  every_same f g [] h = refl
  every_same f g (x ∷ l) h = ap₂ ◌&&◌ h.0 (every_same f g l h.1)

  -- two lists joined, told apart by the first one's length
  pub append_same : (a b c d : List A) → length a ≡ length c → a ++ b ≡ c ++ d → (a ≡ c) × (b ≡ d)
  append_same [] b [] d n e = (refl, e)
  append_same [] b (y ∷ c) d n e = absurd (omega arith)
  append_same (x ∷ a) b [] d n e = absurd (omega arith)
  append_same (x ∷ a) b (y ∷ c) d n e =
      let t = append_same a b c d (omega arith) (tail-eq_of_cons-eq e) in
      (λ i. head-eq_of_cons-eq e i ∷ t.0 i, t.1)

module _ {A B : Type 0} where
  pub all_map : (f : A → B) (P : B → Type 0) (l : List A) → All (λ x. P (f x)) l → All P (map f l)
  all_map f P [] h = tt
  all_map f P (x ∷ l) h = (h.0, all_map f P l h.1)

  pub map_all : (f : A → B) (P : B → Type 0) (l : List A) → All P (map f l) → All (λ x. P (f x)) l
  map_all f P [] h = tt
  map_all f P (x ∷ l) h = (h.0, map_all f P l h.1)

  pub all_flat_map : (f : A → List B) (P : B → Type 0) (l : List A) → All (λ x. All P (f x)) l → All P (flat_map f l)
  unfolding flat_map
  all_flat_map f P [] h = tt
  all_flat_map f P (x ∷ l) h = all_append P (f x) (flat_map f l) h.0 (all_flat_map f P l h.1)

  pub flat_map_all : (f : A → List B) (P : B → Type 0) (l : List A) → All P (flat_map f l) → All (λ x. All P (f x)) l
  unfolding flat_map
  flat_map_all f P [] h = tt
  flat_map_all f P (x ∷ l) h = (all_left P (f x) (flat_map f l) h, flat_map_all f P l (all_right P (f x) (flat_map f l) h))

  -- functions that agree on the list
  pub map_same : (f g : A → B) (l : List A) → All (λ x. f x ≡ g x) l → map f l ≡ map g l
  map_same f g [] h = refl
  map_same f g (x ∷ l) h = λ i. h.0 i ∷ map_same f g l h.1 i

  pub flat_map_same : (f g : A → List B) (l : List A) → All (λ x. f x ≡ g x) l → flat_map f l ≡ flat_map g l
  unfolding flat_map
  flat_map_same f g [] h = refl
  flat_map_same f g (x ∷ l) h = λ i. h.0 i ++ flat_map_same f g l h.1 i

pub flat_map-map : {A B C : Type 0} (f : A → B) (g : B → List C) (l : List A) → flat_map g (map f l) ≡ flat_map (λ x. g (f x)) l
unfolding flat_map
flat_map-map f g [] = refl
flat_map-map f g (x ∷ l) = ap (g (f x) ++◌) (flat_map-map f g l)

-- ---- sums

pub total-append : (a b : List ℕ) → total (a ++ b) ≡ total a + total b
unfolding total
total-append [] b = omega arith
total-append (x ∷ a) b = omega (arith, total-append a b)

-- ---- runs of numbers

pub length-numbers : (i n : ℕ) → length (numbers_from i n) ≡ n
unfolding numbers_from
length-numbers i zero = refl
length-numbers i (suc n) = ap suc (length-numbers (suc i) n)

pub length_up_to : (n : ℕ) → length (up_to n) ≡ n
unfolding up_to
length_up_to n = length-numbers 0 n

pub all_numbers : (P : ℕ → Type 0) (i n : ℕ) → ((j : ℕ) → i ≤ j → j < i + n → P j) → All P (numbers_from i n)
unfolding numbers_from
all_numbers P i zero f = tt
all_numbers P i (suc n) f = (f i (omega arith) (omega arith), all_numbers P (suc i) n (λ j h k. f j (omega arith) (omega arith)))

pub numbers_all : (P : ℕ → Type 0) (i n : ℕ) → All P (numbers_from i n) → (j : ℕ) → i ≤ j → j < i + n → P j
unfolding numbers_from
numbers_all P i zero a j h k = absurd (omega arith)
numbers_all P i (suc n) a j h k =
    elim (ℕ_discrete i j) [ yes e ↦ subst P e a.0 | no e ↦ numbers_all P (suc i) n a.1 j (omega arith) (omega arith) ]

pub all_up_to : (P : ℕ → Type 0) (n : ℕ) → ((j : ℕ) → j < n → P j) → All P (up_to n)
unfolding up_to
all_up_to P n f = all_numbers P 0 n (λ j h k. f j (omega arith))

pub up_to_all : (P : ℕ → Type 0) (n : ℕ) → All P (up_to n) → (j : ℕ) → j < n → P j
unfolding up_to
up_to_all P n a j h = numbers_all P 0 n a j (omega arith) (omega arith)

-- element i of a mapped run of numbers
pub map_at : {A : Type 0} (f : ℕ → A) (d : A) (s n i : ℕ) → i < n → get_or (map f (numbers_from s n)) i d ≡ f (s + i)
unfolding numbers_from
map_at f d s zero i h = absurd (omega arith)
map_at f d s (suc n) zero h = let e : s ≡ s + 0 = omega arith in ap f e
map_at f d s (suc n) (suc i) h = let e : suc s + i ≡ s + suc i = omega arith in map_at f d (suc s) n i (omega arith) ∙ ap f e

pub numbers-split : (i n m : ℕ) → numbers_from i (n + m) ≡ numbers_from i n ++ numbers_from (i + n) m
unfolding numbers_from
numbers-split i zero m = rw (zero-add, add-zero)
numbers-split i (suc n) m = rw suc-add (ap {B = List ℕ} (λ l. i ∷ l) (numbers-split (suc i) n m ∙ rw (suc-add, ← add-suc)))

-- a sum over a run of numbers, and one number more
pub total_next : (f : ℕ → ℕ) (m n : ℕ) → total (map f (numbers_from m (suc n))) ≡ total (map f (numbers_from m n)) + f (m + n)
unfolding total numbers_from
total_next f m zero = omega (arith, ap f (add-zero m))
total_next f m (suc n) = omega (arith, total_next f (suc m) n, ap f (add-suc m n), ap f (suc-add m n))

-- ---- pieces of lists

-- the first n without the first k
pub drop-take : {A : Type 0} (k n : ℕ) (l : List A) → drop k (take n l) ≡ take (n - k) (drop k l)
drop-take zero n l = rw (sub-zero n)
drop-take (suc k) zero l = rw (zero-sub (suc k))
drop-take (suc k) (suc n) [] = sym (take-nil (suc n - suc k))
drop-take (suc k) (suc n) (x ∷ l) = rw (suc-sub-suc n k) (drop-take k n l)

-- ---- lists of lists of one length

pub length-flat_map : {A B : Type 0} (f : A → List B) (k : ℕ) (l : List A) → All (λ x. length (f x) ≡ k) l → length (flat_map f l) ≡ length l * k
unfolding flat_map
length-flat_map f k [] h = omega arith
length-flat_map f k (x ∷ l) h = length-append (f x) (flat_map f l) ∙ omega (arith, h.0, length-flat_map f k l h.1)
