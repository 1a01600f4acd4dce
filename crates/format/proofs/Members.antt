-- Ascending lists by their members; selected members; keys and admissions.
-- Assumes nothing.
use mathlib.Core.Path.{◌≡◌, refl, sym, ap, ◌∙◌, subst}
use mathlib.Core.Bool.{Bool, true, false}
use mathlib.Core.Logic.{◌⊎◌, inl, inr, ⊎_elim}
use mathlib.Core.List.Memᴰ
use mathlib.Core.List.{List, [], ◌∷◌, ◌++◌, Memᴰ}
use Prim.Native.Nat.{ℕ, suc, ◌^◌, ◌≤◌, ◌<◌}
use lib.ListN.{length}
use native.Mathlib.Omega.{arith}
use lib.Dec.{ltb}
use borrow.Author.Tests.{ltb-true, lt-ltb}
use Rattle.format.specs.Seq.{All, cons_if, rank_in, select}
use Rattle.format.specs.Key.{Admissible, holder_of, key_of, slot_of, unwoven, woven}
use Rattle.format.specs.Writer.{ascending}
use Rattle.format.proofs.Lists.{and_left, and_right, and_both}
use Rattle.format.proofs.Keys.{slot_of_key_of, holder_of_key_of, key_of_back, key_of_small, holder_of_small, slot_of_small}
use Rattle.format.proofs.Trie.{Above, Asc, Fits}

-- ---- ascending lists

pub asc_tail : (x : ℕ) (xs : List ℕ) → Above x xs → Asc xs
asc_tail x [] a = tt
asc_tail x (y ∷ ys) a = a.1

pub above_mem : (x k : ℕ) (xs : List ℕ) → Above x xs → Memᴰ k xs → x < k
above_mem x k [] a m = absurd (Memᴰ.not-nil m)
above_mem x k (y ∷ ys) a m = ⊎_elim (λ (e : k ≡ y). omega (arith, a.0)) (λ (t : Memᴰ k ys). omega (arith, a.0, above_mem y k ys a.1 t)) (Memᴰ.cases_cons m)

abbrev pub Within : List ℕ → List ℕ → Type 0
Within xs ys = (k : ℕ) → Memᴰ k xs → Memᴰ k ys

heads : (x : ℕ) (xs : List ℕ) (y : ℕ) (ys : List ℕ) → Above x xs → Above y ys → Within (x ∷ xs) (y ∷ ys) → Within (y ∷ ys) (x ∷ xs) → x ≡ y
heads x xs y ys a b f g =
    ⊎_elim (λ (e : x ≡ y). e)
    (λ (t : Memᴰ x ys). ⊎_elim (λ (e : y ≡ x). sym e) (λ (u : Memᴰ y xs). absurd (omega (arith, above_mem y x ys b t, above_mem x y xs a u))) (Memᴰ.cases_cons (g y (Memᴰ.head refl))))
    (Memᴰ.cases_cons (f x (Memᴰ.head refl)))

tails : (x : ℕ) (xs : List ℕ) (y : ℕ) (ys : List ℕ) → Above x xs → x ≡ y → Within (x ∷ xs) (y ∷ ys) → Within xs ys
tails x xs y ys a e f k m =
    ⊎_elim (λ (d : k ≡ y). absurd (omega (arith, above_mem x k xs a m))) (λ (t : Memᴰ k ys). t) (Memᴰ.cases_cons (f k (Memᴰ.tail m)))

-- ascending lists with the same members are the same list
pub asc_same : (xs ys : List ℕ) → Asc xs → Asc ys → Within xs ys → Within ys xs → xs ≡ ys
asc_same [] [] a b f g = refl
asc_same [] (y ∷ ys) a b f g = absurd (Memᴰ.not-nil (g y (Memᴰ.head refl)))
asc_same (x ∷ xs) [] a b f g = absurd (Memᴰ.not-nil (f x (Memᴰ.head refl)))
asc_same (x ∷ xs) (y ∷ ys) a b f g =
    let e : x ≡ y = heads x xs y ys a b f g in
    λ i. e i ∷ asc_same xs ys (asc_tail x xs a) (asc_tail y ys b) (tails x xs y ys a e f) (tails y ys x xs b (sym e) g) i

-- question 15
pub ascending_of : (xs : List ℕ) → Asc xs → ascending xs ≡ true
unfolding ascending
ascending_of [] a = refl
ascending_of (x ∷ []) a = refl
ascending_of (x ∷ y ∷ ys) a = and_both (lt-ltb x y a.0) (ascending_of (y ∷ ys) a.1)

pub of_ascending : (xs : List ℕ) → ascending xs ≡ true → Asc xs
unfolding ascending
of_ascending [] e = tt
of_ascending (x ∷ []) e = tt
of_ascending (x ∷ y ∷ ys) e = (ltb-true x y (and_left (ltb x y) (ascending (y ∷ ys)) e), of_ascending (y ∷ ys) (and_right (ltb x y) (ascending (y ∷ ys)) e))

pub fits_mem : (n k : ℕ) (xs : List ℕ) → Fits n xs → Memᴰ k xs → k < 2 ^ n
fits_mem n k [] f m = absurd (Memᴰ.not-nil m)
fits_mem n k (x ∷ xs) f m = ⊎_elim (λ (e : k ≡ x). subst (λ (z : ℕ). z < 2 ^ n) (sym e) f.0) (λ (t : Memᴰ k xs). fits_mem n k xs f.1 t) (Memᴰ.cases_cons m)

-- ---- selected members

select_above : (f : ℕ → Bool) (x : ℕ) (xs : List ℕ) → Above x xs → Above x (select f xs)
unfolding select cons_if
select_above f x [] a = tt
select_above f x (y ∷ ys) a = go (f y) (select_above f y ys a.1) (select_above f x ys (lower ys a.1))
  where
    lower : (ys : List ℕ) → Above y ys → Above x ys
    lower [] b = tt
    lower (z ∷ zs) b = (omega (arith, a.0, b.0), b.1)

    go : (b : Bool) → Above y (select f ys) → Above x (select f ys) → Above x (cons_if b y (select f ys))
    go true u v = (a.0, u)
    go false u v = v

pub select_asc : (f : ℕ → Bool) (xs : List ℕ) → Asc xs → Asc (select f xs)
unfolding select cons_if
select_asc f [] a = tt
select_asc f (x ∷ xs) a = go (f x) (select_above f x xs a) (select_asc f xs (asc_tail x xs a))
  where
    go : (b : Bool) → Above x (select f xs) → Asc (select f xs) → Asc (cons_if b x (select f xs))
    go true u v = u
    go false u v = v

pub mem-select : (f : ℕ → Bool) (k : ℕ) (xs : List ℕ) → Memᴰ k xs → f k ≡ true → Memᴰ k (select f xs)
unfolding select cons_if
mem-select f k [] m e = absurd (Memᴰ.not-nil m)
mem-select f k (x ∷ xs) m e = go (f x) refl (Memᴰ.cases_cons m) (λ t. mem-select f k xs t e)
  where
    go : (b : Bool) → f x ≡ b → (k ≡ x) ⊎ Memᴰ k xs → (Memᴰ k xs → Memᴰ k (select f xs)) → Memᴰ k (cons_if b x (select f xs))
    go true d (inl s) r = Memᴰ.head s
    go true d (inr t) r = Memᴰ.tail (r t)
    go false d (inl s) r = absurd (let z : true ≡ false = sym e ∙ ap f s ∙ d in let w : ◌≡◌ {A = ℕ} 0 1 = cc in omega arith)
    go false d (inr t) r = r t

pub select-mem : (f : ℕ → Bool) (k : ℕ) (xs : List ℕ) → Memᴰ k (select f xs) → Memᴰ k xs × (f k ≡ true)
unfolding select cons_if
select-mem f k [] m = absurd (Memᴰ.not-nil m)
select-mem f k (x ∷ xs) m = go (f x) refl (select-mem f k xs) m
  where
    go : (b : Bool) → f x ≡ b → (Memᴰ k (select f xs) → Memᴰ k xs × (f k ≡ true)) → Memᴰ k (cons_if b x (select f xs)) → Memᴰ k (x ∷ xs) × (f k ≡ true)
    go true d r m =
        ⊎_elim (λ (s : k ≡ x). (Memᴰ.head s, ap f s ∙ d)) (λ (t : Memᴰ k (select f xs)). let u = r t in (Memᴰ.tail u.0, u.1)) (Memᴰ.cases_cons m)
    go false d r m = let u = r m in (Memᴰ.tail u.0, u.1)

pub select_all : (f : ℕ → Bool) (xs : List ℕ) → ((k : ℕ) → f k ≡ true) → select f xs ≡ xs
unfolding select cons_if
select_all f [] h = refl
select_all f (x ∷ xs) h = rw (h x) (ap (x ∷◌) (select_all f xs h))

-- ---- keys and admissions

pub woven_back : (keys : List ℕ) → Fits 32 keys → woven (unwoven keys) ≡ keys
unfolding woven unwoven
woven_back [] f = refl
woven_back (k ∷ keys) f = λ i. key_of_back k f.0 i ∷ woven_back keys f.1 i

pub unwoven_back : (list : List (ℕ × ℕ)) → All Admissible list → unwoven (woven list) ≡ list
unfolding woven unwoven
unwoven_back [] a = refl
unwoven_back (p ∷ list) a = λ i. (holder_of_key_of p.0 p.1 a.0.0 i, slot_of_key_of p.0 p.1 a.0.1 i) ∷ unwoven_back list a.1 i

pub woven_fits : (list : List (ℕ × ℕ)) → Fits 32 (woven list)
unfolding woven
woven_fits [] = tt
woven_fits (p ∷ list) = (key_of_small p.0 p.1, woven_fits list)

pub unwoven_small : (keys : List ℕ) → All Admissible (unwoven keys)
unfolding unwoven
unwoven_small [] = tt
unwoven_small (k ∷ keys) = ((holder_of_small k, slot_of_small k), unwoven_small keys)

pub mem-unwoven : (k : ℕ) (keys : List ℕ) → Memᴰ k keys → Memᴰ {A = ℕ × ℕ} (holder_of k, slot_of k) (unwoven keys)
unfolding unwoven
mem-unwoven k [] m = absurd (Memᴰ.not-nil m)
mem-unwoven k (x ∷ keys) m =
    ⊎_elim (λ (e : k ≡ x). Memᴰ.head (λ i. (holder_of (e i), slot_of (e i)))) (λ (t : Memᴰ k keys). Memᴰ.tail (mem-unwoven k keys t)) (Memᴰ.cases_cons m)

-- an admission of the list is a key of it
pub unwoven-mem : (p : ℕ × ℕ) (keys : List ℕ) → Fits 32 keys → Memᴰ p (unwoven keys) → Memᴰ (key_of p.0 p.1) keys
unfolding unwoven
unwoven-mem p [] f m = absurd (Memᴰ.not-nil m)
unwoven-mem p (x ∷ keys) f m =
    ⊎_elim (λ (e : p ≡ (holder_of x, slot_of x)). Memᴰ.head ((λ i. key_of (e i).0 (e i).1) ∙ key_of_back x f.0))
    (λ (t : Memᴰ p (unwoven keys)). Memᴰ.tail (unwoven-mem p keys f.1 t)) (Memᴰ.cases_cons m)

-- a fact of all is one of each member, and back
pub all_mem : {A : Type 0} (P : A → Type 0) (x : A) (l : List A) → All P l → Memᴰ x l → P x
all_mem P x [] a m = absurd (Memᴰ.not-nil m)
all_mem P x (y ∷ l) a m = ⊎_elim (λ (e : x ≡ y). subst P (sym e) a.0) (λ (t : Memᴰ x l). all_mem P x l a.1 t) (Memᴰ.cases_cons m)

pub mem_all : {A : Type 0} (P : A → Type 0) (l : List A) → ((x : A) → Memᴰ x l → P x) → All P l
mem_all P [] f = tt
mem_all P (y ∷ l) f = (f y (Memᴰ.head refl), mem_all P l (λ x m. f x (Memᴰ.tail m)))

-- ---- parts of a list

pub select-append : {A : Type 0} (f : A → Bool) (a b : List A) → select f (a ++ b) ≡ select f a ++ select f b
unfolding select
select-append f [] b = refl
select-append f (x ∷ a) b = ap (cons_if (f x) x) (select-append f a b) ∙ go (f x) x (select f a) (select f b)
  where
    go : {A : Type 0} (t : Bool) (x : A) (l m : List A) → cons_if t x (l ++ m) ≡ cons_if t x l ++ m
    go true x l m = unfold cons_if in refl
    go false x l m = unfold cons_if in refl

pub select-none : (f : ℕ → Bool) (l : List ℕ) → All (λ k. f k ≡ false) l → select f l ≡ []
unfolding select cons_if
select-none f [] h = refl
select-none f (x ∷ l) h = rw h.0 (select-none f l h.1)

-- no more elements than there were
pub select_short : (f : ℕ → Bool) (xs : List ℕ) → length (select f xs) ≤ length xs
unfolding select cons_if
select_short f [] = omega arith
select_short f (x ∷ xs) = go (f x) (select_short f xs)
  where
    go : (t : Bool) → length (select f xs) ≤ length xs → length (cons_if t x (select f xs)) ≤ suc (length xs)
    go true h = omega arith
    go false h = omega arith

pub rank_le : (xs : List ℕ) (x : ℕ) → rank_in xs x ≤ length xs
unfolding rank_in
rank_le xs x = select_short (λ z. ltb z x) xs
