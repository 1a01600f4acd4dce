-- The members between two keys: split at a key, of one key, of none.
-- Assumes nothing.
use mathlib.Core.Bool.{Bool, true, false, ◌&&◌}
use mathlib.Core.List.{List, [], ◌∷◌, ◌++◌, Memᴰ}
use mathlib.Core.Logic.{⊎_elim}
use mathlib.Core.Path.{◌≡◌, refl, sym, ap, ◌∙◌}
use Prim.Native.Nat.{ℕ, suc, ◌≤◌, ◌<◌}
use native.Mathlib.Decide.{dec_le, dec_lt}
use native.Mathlib.Omega.{arith}
use borrow.Author.Tests.{le-leb, lt-leb, lt-ltb, le-ltb}
use lib.Dec.{leb, ltb}
use Rattle.format.specs.Seq.{All, cons_if, select}
use Rattle.format.specs.Image.{keys_of}
use Rattle.format.proofs.Lists.{and_both}
use Rattle.format.proofs.Trie.{Asc}
use Rattle.format.proofs.Members.{asc_tail, above_mem, select-append, select-none}
use Rattle.walk.specs.Walk.{between, members_between}

module _ (lo hi k : ℕ) where
  pub is-between : lo ≤ k → k < hi → between lo hi k ≡ true
  unfolding between
  is-between h l = and_both (le-leb lo k h) (lt-ltb k hi l)

  pub is-before : k < lo → between lo hi k ≡ false
  unfolding between
  is-before h = rw (lt-leb lo k h)

  pub is_after : hi ≤ k → between lo hi k ≡ false
  unfolding between
  is_after h = go (leb lo k)
    where
      go : (b : Bool) → b && ltb k hi ≡ false
      go true = le-ltb k hi h
      go false = refl

-- none of a list
pub none_between : (l : List ℕ) (lo hi : ℕ) → ((k : ℕ) → Memᴰ k l → lo ≤ k → k < hi → ⊥) → select (between lo hi) l ≡ []
unfolding select cons_if
none_between [] lo hi f = refl
none_between (e ∷ l) lo hi f =
    let out : between lo hi e ≡ false =
    elim (dec_le lo e) [
      | yes h ↦ elim (dec_lt e hi) [
        | yes k ↦ absurd (f e (mathlib.Core.List.Memᴰ.head refl) h k)
        | no k ↦ is_after lo hi e (omega arith)
      ]
      | no h ↦ is-before lo hi e (omega arith)
    ] in
    rw out (none_between l lo hi (λ k m. f k (mathlib.Core.List.Memᴰ.tail m)))

-- an ascending list between two numbers, split at one between them
pub split_between : (l : List ℕ) (lo mid hi : ℕ) → Asc l → lo ≤ mid → mid ≤ hi → select (between lo hi) l ≡ select (between lo mid) l ++ select (between mid hi) l
unfolding select cons_if
split_between [] lo mid hi a h k = refl
split_between (e ∷ l) lo mid hi a h k =
    let ih = split_between l lo mid hi (asc_tail e l a) h k in
    elim (dec_lt e lo) [
      | yes p ↦ rw (is-before lo hi e p, is-before lo mid e p, is-before mid hi e (omega arith)) ih
      | no p ↦ elim (dec_lt e mid) [
        | yes q ↦ rw (is-between lo hi e (omega arith) (omega arith), is-between lo mid e (omega arith) q, is-before mid hi e q) (ap (e ∷◌) ih)
        | no q ↦ let none : select (between lo mid) l ≡ [] = none_between l lo mid (λ z m u v. omega (arith, above_mem e z l a m)) in
            elim (dec_lt e hi) [
              | yes t ↦ rw (is-between lo hi e (omega arith) t, is_after lo mid e (omega arith), is-between mid hi e (omega arith) t, none) (ap (e ∷◌) (ih ∙ ap (◌++ select (between mid hi) l) none))
              | no t ↦ rw (is_after lo hi e (omega arith), is_after lo mid e (omega arith), is_after mid hi e (omega arith)) ih
            ]
      ]
    ]

-- one member
pub one_between : (l : List ℕ) (k : ℕ) → Asc l → Memᴰ k l → select (between k (suc k)) l ≡ k ∷ []
unfolding select cons_if
one_between [] k a m = absurd (mathlib.Core.List.Memᴰ.not-nil m)
one_between (e ∷ l) k a m =
    elim (native.Mathlib.Decide.ℕ_discrete k e) [
      | yes d ↦ rw (is-between k (suc k) e (omega arith) (omega arith), none_between l k (suc k) (λ z t u v. omega (arith, above_mem e z l a t))) (ap (λ (n : ℕ). n ∷ []) (sym d))
      | no d ↦ let t : Memᴰ k l = ⊎_elim (λ (q : k ≡ e). absurd (d q)) (λ (t : Memᴰ k l). t) (mathlib.Core.List.Memᴰ.cases_cons m) in
          rw (is-before k (suc k) e (let lt = above_mem e k l a t in lt)) (one_between l k (asc_tail e l a) t)
    ]

-- all of them
pub all_between : (l : List ℕ) (lo hi : ℕ) → All (λ k. (lo ≤ k) × (k < hi)) l → select (between lo hi) l ≡ l
unfolding select cons_if
all_between [] lo hi a = refl
all_between (e ∷ l) lo hi a = rw (is-between lo hi e a.0.0 a.0.1) (ap (e ∷◌) (all_between l lo hi a.1))

-- ---- the keys that pass a test

failing_all : (f : ℕ → Bool) (lo hi : ℕ) → ((k : ℕ) → lo ≤ k → k < hi → f k ≡ false) → (l : List ℕ) → All (λ k. f k ≡ false) (select (between lo hi) l)
unfolding select cons_if
failing_all f lo hi h [] = tt
failing_all f lo hi h (e ∷ l) =
    elim (dec_le lo e) [
      | yes a ↦ elim (dec_lt e hi) [
        | yes k ↦ rw (is-between lo hi e a k) (h e a k, failing_all f lo hi h l)
        | no k ↦ rw (is_after lo hi e (omega arith)) (failing_all f lo hi h l)
      ]
      | no a ↦ rw (is-before lo hi e (omega arith)) (failing_all f lo hi h l)
    ]

-- two tests that agree between
agree_all : (f g : ℕ → Bool) (lo hi : ℕ) → ((k : ℕ) → lo ≤ k → k < hi → f k ≡ g k) → (l : List ℕ) → select f (select (between lo hi) l) ≡ select g (select (between lo hi) l)
unfolding select cons_if
agree_all f g lo hi h [] = refl
agree_all f g lo hi h (e ∷ l) =
    elim (dec_le lo e) [
      | yes a ↦ elim (dec_lt e hi) [
        | yes k ↦ rw (is-between lo hi e a k, h e a k) (ap (cons_if (g e) e) (agree_all f g lo hi h l))
        | no k ↦ rw (is_after lo hi e (omega arith)) (agree_all f g lo hi h l)
      ]
      | no a ↦ rw (is-before lo hi e (omega arith)) (agree_all f g lo hi h l)
    ]

module _ (img : List ℕ) (f : ℕ → Bool) where
  pub members_split : (lo mid hi : ℕ) → Asc (keys_of img) → lo ≤ mid → mid ≤ hi → members_between img f lo hi ≡ members_between img f lo mid ++ members_between img f mid hi
  unfolding members_between
  members_split lo mid hi a h k = ap (select f) (split_between (keys_of img) lo mid hi a h k) ∙ select-append f (select (between lo mid) (keys_of img)) (select (between mid hi) (keys_of img))

  -- no key
  pub members_none : (lo hi : ℕ) → ((k : ℕ) → Memᴰ k (keys_of img) → lo ≤ k → k < hi → ⊥) → members_between img f lo hi ≡ []
  unfolding members_between select
  members_none lo hi h = ap (select f) (none_between (keys_of img) lo hi h)

  -- no key that passes
  pub members_outside : (lo hi : ℕ) → ((k : ℕ) → lo ≤ k → k < hi → f k ≡ false) → members_between img f lo hi ≡ []
  unfolding members_between
  members_outside lo hi h = select-none f (select (between lo hi) (keys_of img)) (failing_all f lo hi h (keys_of img))

  -- a key that passes
  pub members_one : (k : ℕ) → Asc (keys_of img) → Memᴰ k (keys_of img) → f k ≡ true → members_between img f k (suc k) ≡ k ∷ []
  unfolding members_between select cons_if
  members_one k a m e = ap (select f) (one_between (keys_of img) k a m) ∙ rw e

  pub members_agree : (g : ℕ → Bool) (lo hi : ℕ) → ((k : ℕ) → lo ≤ k → k < hi → f k ≡ g k) → members_between img f lo hi ≡ members_between img g lo hi
  unfolding members_between
  members_agree g lo hi h = agree_all f g lo hi h (keys_of img)
