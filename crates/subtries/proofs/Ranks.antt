-- Ranks in an ascending list: of the next number, of a number just below a member; and membership with the answer of its test.
-- Assumes nothing.
use mathlib.Core.Bool.{Bool, true, false}
use mathlib.Core.List.{List, [], ◌∷◌, Memᴰ}
use mathlib.Core.Path.{◌≡◌, refl, sym, ap, ◌∙◌}
use Prim.Native.Nat.{ℕ, suc, ◌+◌, ◌≤◌, ◌<◌}
use native.Mathlib.Decide.{dec_lt, ℕ_discrete}
use native.Mathlib.Omega.{arith}
use borrow.Author.Tests.{lt-ltb, le-ltb, eq-eqb, ne_eqb}
use lib.Dec.{ltb}
use lib.ListN.{length, get_or}
use Rattle.format.specs.Seq.{cons_if, is_in, rank_in, select}
use Rattle.format.proofs.Trie.{Asc}
use Rattle.format.proofs.Members.{asc_tail, above_mem}
use Rattle.format.proofs.Descent.{is_in-mem, is_in-not, mem-is_in, rank_at}
use Rattle.subtries.specs.Subtrie.{as_bit}

-- a member or not, with the test's answer
pub data Tested (x : ℕ) (l : List ℕ) : Bool → Type 0 where
  member : Memᴰ x l → Tested x l true
  stranger : (Memᴰ x l → ⊥) → Tested x l false

-- which of the two, by the test
pub tested : (x : ℕ) (l : List ℕ) → Tested x l (is_in x l)
unfolding as_bit
tested x l = go (is_in x l) refl
  where
    go : (b : Bool) → is_in x l ≡ b → Tested x l b
    go true e = member (mem-is_in x l e)
    go false e = stranger (λ m. let z : ◌≡◌ {A = ℕ} 0 1 = ap as_bit (sym e ∙ is_in-mem x l m) in omega arith)

-- how many of a list are below z
rank_cons : (e : ℕ) (l : List ℕ) (z : ℕ) → rank_in (e ∷ l) z ≡ as_bit (ltb e z) + rank_in l z
unfolding rank_in select
rank_cons e l z = go (ltb e z)
  where
    go : (b : Bool) → length (cons_if b e (select (λ y. ltb y z) l)) ≡ as_bit b + length (select (λ y. ltb y z) l)
    go true = unfold cons_if as_bit in omega arith
    go false = unfold cons_if as_bit in omega arith

-- the rank of the next number
pub rank_next : (l : List ℕ) (z : ℕ) → Asc l → rank_in l (suc z) ≡ rank_in l z + as_bit (is_in z l)
unfolding is_in as_bit
rank_next [] z a = unfold rank_in select in refl
rank_next (e ∷ l) z a =
    let ih : rank_in l (suc z) ≡ rank_in l z + as_bit (is_in z l) = rank_next l z (asc_tail e l a) in
    rw (rank_cons e l (suc z), rank_cons e l z)
    (elim (dec_lt e z) [
      | yes h ↦ rw (lt-ltb e (suc z) (omega arith), lt-ltb e z h, ne_eqb z e (λ d. omega arith)) (omega arith)
      | no h ↦ elim (ℕ_discrete z e) [
        | yes d ↦ let none : is_in z l ≡ false = is_in-not z l (λ m. omega (arith, above_mem e z l a m)) in
            let same : rank_in l (suc z) ≡ rank_in l z + as_bit false = rw none at ih in
            rw (lt-ltb e (suc z) (omega arith), le-ltb e z (omega arith), eq-eqb z e d) (omega (arith, same))
        | no d ↦ rw (le-ltb e (suc z) (omega arith), le-ltb e z (omega arith), ne_eqb z e d) (omega arith)
      ]
    ])

-- ranks agree where no member lies between
pub rank_agree : (l : List ℕ) (z z' : ℕ) → ((k : ℕ) → Memᴰ k l → ltb k z ≡ ltb k z') → rank_in l z ≡ rank_in l z'
rank_agree [] z z' f = unfold rank_in select in refl
rank_agree (e ∷ l) z z' f =
    rank_cons e l z ∙ ap (λ (b : Bool). as_bit b + rank_in l z) (f e (Memᴰ.head refl)) ∙ ap (as_bit (ltb e z') +◌) (rank_agree l z z' (λ k m. f k (Memᴰ.tail m))) ∙ sym (rank_cons e l z')

-- the rank of a number below which the members before the nth end
pub rank_first : (l : List ℕ) (n z : ℕ) → Asc l → n < length l → z ≤ get_or l n 0 → ((k : ℕ) → Memᴰ k l → k < get_or l n 0 → k < z) → rank_in l z ≡ n
rank_first l n z a h le f =
    rank_agree l z (get_or l n 0) (λ k m. elim (dec_lt k (get_or l n 0)) [
      | yes b ↦ lt-ltb k z (f k m b) ∙ sym (lt-ltb k (get_or l n 0) b)
      | no b ↦ le-ltb k z (omega arith) ∙ sym (le-ltb k (get_or l n 0) (omega arith))
    ])
    ∙ rank_at l n a h
