-- Questions asked in order: all get a yes, or a first no.
-- Assumes nothing.
use mathlib.Core.Path.{◌≡◌, refl, sym, ap, ◌∙◌}
use mathlib.Core.Bool.{Bool, true, false, cond}
use mathlib.Core.Option.{none, some}
use mathlib.Core.List.{List, [], ◌∷◌, ◌++◌, flat_map, append_assoc}
use Prim.Native.Nat.{ℕ, suc, ◌+◌, ◌-◌, ◌≤◌, ◌<◌}
use native.Mathlib.Nat.{zero-add}
use native.Mathlib.Numerals.{add-one}
use Rattle.format.specs.Seq.{All, numbers_from, up_to}
use Rattle.format.specs.Question.{Question, Yes, first_no, one_to}
use native.Mathlib.Omega.{arith}
use borrow.Author.Tests.{eqb-false, le-leb, leb-true}
use lib.Dec.{eqb, leb}
use lib.ListN.{drop}
use Rattle.format.proofs.Lists.{and_both, and_left, and_right, numbers-split}

-- no first no: every question got a yes
pub yes_of_none : (qs : List Question) → first_no qs ≡ none → All Yes qs
unfolding first_no
yes_of_none [] h = tt
yes_of_none (q ∷ qs) h = go q.1 refl (yes_of_none qs) h
  where
    go : (b : Bool) → q.1 ≡ b → (first_no qs ≡ none → All Yes qs) → cond b (first_no qs) (some q.0) ≡ none → (q.1 ≡ true) × All Yes qs
    go true e f k = (e, f k)
    go false e f k = (e ∙ cc, absurd (let z : ◌≡◌ {A = ℕ} 0 1 = cc in omega arith))

pub none_of_yes : (qs : List Question) → All Yes qs → first_no qs ≡ none
unfolding first_no
none_of_yes [] h = refl
none_of_yes (q ∷ qs) h = rw h.0 (none_of_yes qs h.1)

-- what a question of 1 to m asks
pub range_of : (m n : ℕ) → one_to m n ≡ true → (1 ≤ n) × (n ≤ m)
range_of m n h = (leb-true 1 n (and_left (leb 1 n) (leb n m) h), leb-true n m (and_right (leb 1 n) (leb n m) h))

pub of_range : (m n : ℕ) → 1 ≤ n → n ≤ m → one_to m n ≡ true
of_range m n lo hi = and_both (le-leb 1 n lo) (le-leb n m hi)

-- one question after another
module _ (n : ℕ) (t : Bool) (qs : List Question) where
  pub asked_yes : t ≡ true → first_no ((n, t) ∷ qs) ≡ first_no qs
  unfolding first_no
  asked_yes e = rw e

  pub asked_no : t ≡ false → first_no ((n, t) ∷ qs) ≡ some n
  unfolding first_no
  asked_no e = rw e

-- the first k questions got a yes
abbrev pub Past : ℕ → List Question → Type 0
Past k qs = first_no qs ≡ first_no (drop k qs)

-- question n is the first of those left, and the code found the answer t
module _ (n : ℕ) (t q : Bool) (qs rs : List Question) (p : first_no qs ≡ first_no ((n, q) ∷ rs)) (e : t ≡ q) where
  pub no_to : t ≡ false → some n ≡ first_no qs
  no_to h = sym (p ∙ asked_no n q rs (sym e ∙ h))

  pub yes_to : t ≡ true → first_no qs ≡ first_no rs
  yes_to h = p ∙ asked_yes n q rs (sym e ∙ h)

-- all yes: the questions after them decide
pub after_yes : (qs rs : List Question) → first_no qs ≡ none → first_no (qs ++ rs) ≡ first_no rs
unfolding first_no
after_yes [] rs h = refl
after_yes (q ∷ qs) rs h = go q.1 (after_yes qs rs) h
  where
    go : (b : Bool) → (first_no qs ≡ none → first_no (qs ++ rs) ≡ first_no rs) → cond b (first_no qs) (some q.0) ≡ none
        → cond b (first_no (qs ++ rs)) (some q.0) ≡ first_no rs
    go true ih e = ih e
    go false ih e = cc

-- a no: the questions after it are not asked
pub after_no : (qs rs : List Question) (n : ℕ) → first_no qs ≡ some n → first_no (qs ++ rs) ≡ some n
unfolding first_no
after_no [] rs n h = cc
after_no (q ∷ qs) rs n h = go q.1 (after_no qs rs n) h
  where
    go : (b : Bool) → (first_no qs ≡ some n → first_no (qs ++ rs) ≡ some n) → cond b (first_no qs) (some q.0) ≡ some n
        → cond b (first_no (qs ++ rs)) (some q.0) ≡ some n
    go true ih e = ih e
    go false ih e = e

-- questions with other numbers than the first no's got a yes
pub others_yes : (qs rs : List Question) (n : ℕ) → All (λ q. eqb q.0 n ≡ false) qs → first_no (qs ++ rs) ≡ some n → All Yes qs × (first_no rs ≡ some n)
unfolding first_no
others_yes [] rs n ne h = (tt, h)
others_yes (q ∷ qs) rs n ne h = go q.1 refl (others_yes qs rs n ne.1) h
  where
    go : (b : Bool) → q.1 ≡ b → (first_no (qs ++ rs) ≡ some n → All Yes qs × (first_no rs ≡ some n)) → cond b (first_no (qs ++ rs)) (some q.0) ≡ some n
        → (Yes q × All Yes qs) × (first_no rs ≡ some n)
    go true e ih k = let (yes-qs, later) = ih k in ((e, yes-qs), later)
    go false e ih k = absurd (eqb-false q.0 n ne.0 cc)

flat_map-append : (f : ℕ → List Question) (xs ys : List ℕ) → flat_map f (xs ++ ys) ≡ flat_map f xs ++ flat_map f ys
unfolding flat_map
flat_map-append f [] ys = refl
flat_map-append f (x ∷ xs) ys = rw (flat_map-append f xs ys) (sym (append_assoc (f x) (flat_map f xs) (flat_map f ys)))

numbers_at : (i n : ℕ) → i < n → up_to n ≡ up_to i ++ i ∷ numbers_from (i + 1) (n - (i + 1))
unfolding up_to numbers_from
numbers_at i n h =
    let e : n ≡ i + suc (n - (i + 1)) = omega arith in
    ap (numbers_from 0) e ∙ numbers-split 0 i (suc (n - (i + 1))) ∙ rw (zero-add, add-one)

-- A loop over i that asks f i: after a yes throughout up to i, the questions of i, then the rest.
pub at_turn : (f : ℕ → List Question) (i n : ℕ) → i < n → first_no (flat_map f (up_to i)) ≡ none
    → first_no (flat_map f (up_to n)) ≡ first_no (f i ++ flat_map f (numbers_from (i + 1) (n - (i + 1))))
unfolding flat_map
at_turn f i n h yes-so-far =
    ap (λ (l : List ℕ). first_no (flat_map f l)) (numbers_at i n h)
    ∙ ap first_no (flat_map-append f (up_to i) (i ∷ numbers_from (i + 1) (n - (i + 1))))
    ∙ after_yes (flat_map f (up_to i)) (f i ++ flat_map f (numbers_from (i + 1) (n - (i + 1)))) yes-so-far

-- and after a yes of i too, a yes throughout up to i + 1
pub next_turn : (f : ℕ → List Question) (i : ℕ) → first_no (flat_map f (up_to i)) ≡ none → first_no (f i) ≡ none → first_no (flat_map f (up_to (suc i))) ≡ none
unfolding flat_map numbers_from
next_turn f i so_far here =
    at_turn f i (suc i) (omega arith) so_far
    ∙ after_yes (f i) (flat_map f (numbers_from (i + 1) (suc i - (i + 1)))) here
    ∙ (let e : suc i - (i + 1) ≡ 0 = omega arith in ap (λ (m : ℕ). first_no (flat_map f (numbers_from (i + 1) m))) e ∙ (unfold first_no in refl))

-- a no of i is the loop's
pub no_at_turn : (f : ℕ → List Question) (i n k : ℕ) → i < n → first_no (flat_map f (up_to i)) ≡ none → first_no (f i) ≡ some k → first_no (flat_map f (up_to n)) ≡ some k
no_at_turn f i n k h so_far here = at_turn f i n h so_far ∙ after_no (f i) (flat_map f (numbers_from (i + 1) (n - (i + 1)))) k here
