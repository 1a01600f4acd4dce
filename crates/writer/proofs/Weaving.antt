-- The admissions of a list, woven one by one into the first places of a list of numbers, and the keys of a list.
-- Assumes nothing.
use mathlib.Core.Path.{◌≡◌, refl, sym, ap, ◌∙◌}
use mathlib.Core.List.{List, [], ◌∷◌, ◌++◌}
use Prim.Native.Nat.{ℕ, zero, suc, ◌≤◌, ◌<◌}
use native.Mathlib.Omega.{arith}
use Rattle.std.specs.Prelude.{Result}
use lib.ListN.{length, get_or, take, drop, set}
use Rattle.format.specs.Key.{key_of, woven}
use Rattle.format.specs.Writer.{buffer_after_write, buffer_after_write_keys, lift_question, write, write_keys}
use Rattle.format.specs.declared.Admission.{Admission}
use Rattle.format.specs.declared.refusal.Refusal.{Refusal}
use Rattle.writer.specs.Outcomes.{WrittenKeys, WrittenList, pairs_in}
use Rattle.writer.specs.List.{keys_in}

-- one admission more
pub woven_next : (ls : List Admission) (ks : List ℕ) (i : ℕ) (d : Admission) → i < length ls → length ls ≤ length ks
    → set (keys_in (take i ls) ++ drop i ks) i (key_of (get_or ls i d).holder (get_or ls i d).slot) ≡ keys_in (take (suc i) ls) ++ drop (suc i) ks
woven_next [] ks i d h room = absurd (omega arith)
woven_next (a ∷ ls) [] i d h room = absurd (omega arith)
woven_next (a ∷ ls) (k ∷ ks) zero d h room = refl
woven_next (a ∷ ls) (k ∷ ks) (suc i) d h room = ap (key_of a.holder a.slot ∷◌) (woven_next ls ks i d (omega arith) (omega arith))

pub keys_length : (ls : List Admission) → length (keys_in ls) ≡ length ls
keys_length [] = refl
keys_length (a ∷ ls) = ap suc (keys_length ls)

keys_take : (n : ℕ) (ls : List Admission) → keys_in (take n ls) ≡ take n (keys_in ls)
keys_take zero ls = refl
keys_take (suc n) [] = refl
keys_take (suc n) (a ∷ ls) = ap (key_of a.holder a.slot ∷◌) (keys_take n ls)

-- the keys of the list, or of its first, in the first places
pub woven_loaded : (ls : List Admission) (ks m : List ℕ) → m ≡ keys_in ls ++ drop (length ls) ks → m ≡ keys_in ls ++ drop (length (keys_in ls)) ks
woven_loaded ls ks m e = rw (keys_length ls) e

pub woven_again : (n : ℕ) (ls : List Admission) (ks m : List ℕ) → m ≡ keys_in (take n ls) ++ drop (length (take n ls)) ks → m ≡ take n (keys_in ls) ++ drop (length (take n (keys_in ls))) ks
woven_again n ls ks m e = rw (← keys_take n ls) (woven_loaded (take n ls) ks m e)

-- format's keys of the pairs are the list's
keys_are : (ls : List Admission) → woven (pairs_in ls) ≡ keys_in ls
unfolding woven
keys_are [] = refl
keys_are (a ∷ ls) = ap (key_of a.holder a.slot ∷◌) (keys_are ls)

-- what is written of the keys is what is written of the list
pub in_pairs : (lift : ℕ) (ls : List Admission) (buffer : List ℕ) (answer : Result ℕ Refusal) (buffer' : List ℕ) → WrittenKeys (lift_question lift) lift (keys_in ls) buffer answer buffer' → WrittenList lift ls buffer answer buffer'
unfolding write buffer_after_write
in_pairs lift ls buffer answer buffer' w =
    record {
      returned = w.returned ∙ ap (λ (k : List ℕ). write_keys (lift_question lift) lift k buffer) (sym (keys_are ls));
      bytes = w.bytes ∙ ap (λ (k : List ℕ). buffer_after_write_keys (lift_question lift) lift k buffer) (sym (keys_are ls));
    }
