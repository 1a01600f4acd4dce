-- The number that "absent" brings is the admission's rank, once it is listed beside the others. The statement is specs/Insertion.antt.
-- Assumes nothing.
use mathlib.Core.Path.{◌≡◌, refl, sym, ap, ◌∙◌}
use mathlib.Core.Logic.{⊎_elim}
use mathlib.Core.Bool.{Bool, false, not, false≢true}
use mathlib.Core.List.{List, [], ◌∷◌, map, Memᴰ}
use Prim.Native.Nat.{ℕ, zero, suc, ◌≤◌}
use native.Mathlib.Omega.{arith}
use borrow.Author.Tests.{le-ltb, eq-eqb, ne_eqb}
use lib.Dec.{eqb, ltb}
use lib.ListN.{length}
use Rattle.format.specs.Seq.{cons_if, insert_at, rank_in, select}
use Rattle.format.specs.Key.{Admissible, holder_of, key_of, slot_of, unwoven}
use Rattle.format.specs.Image.{bands, keys_of, list_of}
use Rattle.format.specs.Question.{image_questions, returns}
use Rattle.format.specs.Answer.{absent, listed, lookup, lookup_answer, page_of}
use Rattle.format.specs.Exact.{Accepted}
use Rattle.format.specs.Insertion.{AbsentIn, Inserted, Insertion}
use Rattle.format.proofs.Jobs.{settle-yes, yes_of_returns}
use Rattle.format.proofs.Keys.{holder_of_key_of, slot_of_key_of, key_of_back}
use Rattle.format.proofs.Trie.{Above, Asc}
use Rattle.format.proofs.Members.{Within, above_mem, all_mem, asc_same, asc_tail, fits_mem, mem-select, mem-unwoven, select_asc, select-mem, unwoven-mem, unwoven_small}
use Rattle.format.proofs.Accepted.{facts}
use Rattle.format.proofs.Ranks.{rank_first, rank_zero}
use Rattle.format.proofs.Lookup.{place_absent, place_member}

-- ---- lists

-- a key put in among keys is its admission put in among theirs
unwoven_put : (n k : ℕ) (keys : List ℕ) → unwoven (insert_at n k keys) ≡ insert_at {A = ℕ × ℕ} n (holder_of k, slot_of k) (unwoven keys)
unfolding unwoven
unwoven_put zero k keys = refl
unwoven_put (suc n) k [] = refl
unwoven_put (suc n) k (x ∷ keys) = ap ((holder_of x, slot_of x) ∷◌) (unwoven_put n k keys)

-- putting in a number that fails the test changes no selection
select_put : (f : ℕ → Bool) (n k : ℕ) (l : List ℕ) → f k ≡ false → select f (insert_at n k l) ≡ select f l
unfolding select cons_if
select_put f zero k l e = rw e
select_put f (suc n) k [] e = rw e
select_put f (suc n) k (x ∷ l) e = ap (cons_if (f x) x) (select_put f n k l e)

-- nor how many are smaller than that number
pub rank_put : (n k : ℕ) (l : List ℕ) → rank_in (insert_at n k l) k ≡ rank_in l k
unfolding rank_in
rank_put n k l = ap length (select_put (λ y. ltb y k) n k l (le-ltb k k (omega arith)))

-- whether x is another number than k
abbrev other : ℕ → ℕ → Bool
other k x = not (eqb x k)

-- above k all are others
others_above : (k x : ℕ) (l : List ℕ) → k ≤ x → Above x l → select (other k) l ≡ l
unfolding select cons_if
others_above k x [] h a = refl
others_above k x (y ∷ l) h a = rw (ne_eqb y k (λ e. omega (arith, a.0))) (ap (y ∷◌) (others_above k y l (omega (arith, a.0)) a.1))

-- an ascending list is its others with the member put in at its rank
put_back : (k : ℕ) (l : List ℕ) → Asc l → Memᴰ k l → l ≡ insert_at (rank_in l k) k (select (other k) l)
unfolding select cons_if
put_back k [] a m = absurd (mathlib.Core.List.Memᴰ.not-nil m)
put_back k (x ∷ l) a m =
    ⊎_elim (λ (e : k ≡ x). rw (rank_zero x k l a (omega arith), eq-eqb x k (sym e), others_above k x l (omega arith) a) (ap (◌∷ l) (sym e)))
    (λ (t : Memᴰ k l). let h = above_mem x k l a t in rw (rank_first x k l h, ne_eqb x k (λ e. omega arith)) (ap (x ∷◌) (put_back k l (asc_tail x l a) t)))
    (mathlib.Core.List.Memᴰ.cases_cons m)

-- ---- keys

-- where the list of b has each admission of a but one, b has each key of a but that one's
across : (holder slot : ℕ) (a b : List ℕ) → Accepted a → Accepted b → ((p : ℕ × ℕ) → (p ≡ (holder, slot) → ⊥) → Memᴰ p (list_of a) → Memᴰ p (list_of b))
    → (x : ℕ) → (x ≡ key_of holder slot → ⊥) → Memᴰ x (keys_of a) → Memᴰ x (keys_of b)
unfolding list_of
across holder slot a b ia ib f x ne m =
    let back : key_of (holder_of x) (slot_of x) ≡ x = key_of_back x (fits_mem 32 x (keys_of a) (facts a ia).keys.fits m) in
    let in_b = f (holder_of x, slot_of x) (λ e. ne (sym back ∙ (λ i. key_of (e i).0 (e i).1))) (mem-unwoven x (keys_of a) m) in
    mathlib.Core.List.Memᴰ.cast (sym back) (unwoven-mem (holder_of x, slot_of x) (keys_of b) (facts b ib).keys.fits in_b)

module _ (img after : List ℕ) (holder slot smaller : ℕ) (was : AbsentIn img holder slot smaller) (accepted : Accepted after) (is : Inserted img after (holder, slot)) where
  abbrev key : ℕ
  key = key_of holder slot

  -- what lookup brought
  answer-was : lookup_answer img key ≡ absent smaller
  unfolding lookup
  answer-was = (yes_of_returns (image_questions img) (lookup_answer img key) (absent smaller) was.looked_up).1

  -- the key was not listed, and is
  key-absent : Memᴰ key (keys_of img) → ⊥
  key-absent m = let z : ◌≡◌ {A = ℕ} 0 1 = cc (answer-was, place_member img key m) in omega arith

  key-there : Memᴰ key (keys_of after)
  unfolding list_of
  key-there = unwoven-mem (holder, slot) (keys_of after) (facts after accepted).keys.fits is.there

  -- every other key was listed, and what was listed is another key: so these are the keys that were
  others-listed : Within (select (other key) (keys_of after)) (keys_of img)
  others-listed x m =
      let s = select-mem (other key) x (keys_of after) m in
      across holder slot after img accepted was.accepted (λ p n. (is.others p n).1) x (λ e. false≢true (sym (ap not (eq-eqb x key e)) ∙ s.1)) s.0

  listed-others : Within (keys_of img) (select (other key) (keys_of after))
  listed-others x m =
      let ne : x ≡ key → ⊥ = λ e. key-absent (mathlib.Core.List.Memᴰ.cast (sym e) m) in
      mem-select (other key) x (keys_of after) (across holder slot img after was.accepted accepted (λ p n. (is.others p n).0) x ne m) (ap not (ne_eqb x key ne))

  others_same : select (other key) (keys_of after) ≡ keys_of img
  others_same =
      asc_same (select (other key) (keys_of after)) (keys_of img) (select_asc (other key) (keys_of after) (facts after accepted).keys.asc) (facts img was.accepted).keys.asc
      others-listed listed-others

  -- so the key was put in at its rank, which is the number that lookup brought
  keys-put : keys_of after ≡ insert_at (rank_in (keys_of after) key) key (keys_of img)
  keys-put = put_back key (keys_of after) (facts after accepted).keys.asc key-there ∙ ap (insert_at (rank_in (keys_of after) key) key) others_same

  rank_is : rank_in (keys_of after) key ≡ smaller
  rank_is =
      let r : rank_in (keys_of img) key ≡ smaller = cc (answer-was, place_absent img key key-absent) in
      ap (λ (l : List ℕ). rank_in l key) keys-put ∙ rank_put (rank_in (keys_of after) key) key (keys_of img) ∙ r

  -- the two parts of the statement
  answer-is : lookup after holder slot ≡ returns (listed smaller (map (page_of after key) bands))
  unfolding lookup
  answer-is =
      settle-yes (image_questions after) (lookup_answer after key) (facts after accepted).all_yes
      ∙ ap returns (place_member after key key-there ∙ ap (λ (n : ℕ). listed n (map (page_of after key) bands)) rank_is)

  list-is : list_of after ≡ insert_at smaller (holder, slot) (list_of img)
  unfolding list_of
  list-is =
      let small : Admissible (holder, slot) = all_mem Admissible (holder, slot) (list_of after) (unwoven_small (keys_of after)) is.there in
      ap unwoven (keys-put ∙ ap (λ (n : ℕ). insert_at n key (keys_of img)) rank_is)
      ∙ unwoven_put smaller key (keys_of img)
      ∙ (λ i. insert_at smaller (holder_of_key_of holder slot small.0 i, slot_of_key_of holder slot small.1 i) (list_of img))

-- ---- the statement

pub insertion : Insertion
insertion = record { rank = answer-is; list = list-is }
