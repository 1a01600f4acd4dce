-- The changed keys and the changed records at the rank of the key: one put in there, or the one there left out.
-- Assumes nothing.
use mathlib.Core.Path.{◌≡◌, refl, sym, ap, ◌∙◌}
use mathlib.Core.Bool.{true, not}
use mathlib.Core.List.{List, [], ◌∷◌, ◌++◌, map, append_assoc, map-append, Memᴰ}
use Prim.Native.Nat.{ℕ, zero, suc, ◌≤◌, ◌<◌}
use native.Mathlib.Omega.{arith}
use borrow.Author.Tests.{leb-true}
use lib.ListN.{length, take, drop, set, length-append, length-map, take-append-drop}
use lib.Seq.{drop-append-le, drop_at, length-take-le, take_at, take-take}
use Rattle.format.specs.Seq.{delete_at, insert_at, is_in, rank_in}
use Rattle.format.specs.Image.{key_count, keys_of}
use Rattle.format.specs.Scan.{record_of, records_length}
use Rattle.format.specs.Exact.{Accepted}
use Rattle.format.proofs.Accepted.{facts}
use Rattle.format.proofs.Lists.{map_same}
use Rattle.format.proofs.Descent.{at_rank_lem, is_in-mem, mem-is_in}
use Rattle.format.proofs.Members.{mem_all, rank_le}
use Rattle.format.proofs.Trie.{Asc}
use Rattle.edit.specs.declared.Change.{Change}
use Rattle.edit.specs.declared.Change.TheVariants.{Add, Withdraw}
use Rattle.edit.specs.Edit.{can_change, carried, changed_count, changed_keys, changed_records, few_enough, keys_above, keys_below}
use Rattle.edit.proofs.ChangedKeys.{absent_same, add_length, listed_same, withdraw_length}
use Rattle.edit.proofs.ChangedRecords.{carried_none, carried_own, own_records}

-- ---- lists

-- one put in and left out again
pub delete_insert : (n x : ℕ) (l : List ℕ) → n ≤ length l → delete_at n (insert_at n x l) ≡ l
delete_insert zero x l h = refl
delete_insert (suc n) x [] h = absurd (omega arith)
delete_insert (suc n) x (y ∷ l) h = ap (y ∷◌) (delete_insert n x l (omega arith))

-- one left out, and another put in there
pub insert_delete : (n x : ℕ) (l : List ℕ) → n < length l → insert_at n x (delete_at n l) ≡ set l n x
insert_delete n x [] h = absurd (omega arith)
insert_delete zero x (y ∷ l) h = refl
insert_delete (suc n) x (y ∷ l) h = ap (y ∷◌) (insert_delete n x l (omega arith))

-- what is before and after a place of the first n elements
take_front : (x y r : List ℕ) (n k : ℕ) → x ++ y ≡ take n r → length x ≡ k → k ≤ n → x ≡ take k r
take_front x y r n k e h l = sym (take_at x y k h) ∙ ap (take k) e ∙ take-take k n r l

drop_front : (x y r : List ℕ) (n k : ℕ) → x ++ y ≡ take n r → length x ≡ k → n ≤ length r → k ≤ n → y ++ drop n r ≡ drop k r
drop_front x y r n k e h m l =
    ap (◌++ drop n r) (sym (drop_at x y k h) ∙ ap (drop k) e)
    ∙ sym (drop-append-le k (take n r) (drop n r) (omega (arith, length-take-le n r m)))
    ∙ ap (drop k) (take-append-drop n r)

-- ---- keys

rank_is : (key : ℕ) (keys : List ℕ) → length (keys_below key keys) ≡ rank_in keys key
unfolding keys_below rank_in
rank_is key keys = refl

module _ (key : ℕ) (keys : List ℕ) (a : Asc keys) where
  -- the keys below and above are those before and after the rank
  split-absent : (Memᴰ key keys → ⊥) → keys_below key keys ++ keys_above key keys ≡ keys
  split-absent f = (unfold changed_keys in absent_same key keys a f)

  split-listed : Memᴰ key keys → keys_below key keys ++ key ∷ keys_above key keys ≡ keys
  split-listed m = (unfold changed_keys in listed_same key keys a m)

  before-rank : (rest : List ℕ) → keys_below key keys ++ rest ≡ keys → keys_below key keys ≡ take (rank_in keys key) keys
  before-rank rest e = sym (take_at (keys_below key keys) rest (rank_in keys key) (rank_is key keys)) ∙ ap (take (rank_in keys key)) e

  after-rank : (rest : List ℕ) → keys_below key keys ++ rest ≡ keys → rest ≡ drop (rank_in keys key) keys
  after-rank rest e = sym (drop_at (keys_below key keys) rest (rank_in keys key) (rank_is key keys)) ∙ ap (drop (rank_in keys key)) e

  pub added_at : (Memᴰ key keys → ⊥) → changed_keys Add key keys ≡ insert_at (rank_in keys key) key keys
  unfolding changed_keys
  added_at f = let e = split-absent f in λ i. before-rank (keys_above key keys) e i ++ key ∷ after-rank (keys_above key keys) e i

  pub withdrawn_at : Memᴰ key keys → changed_keys Withdraw key keys ≡ delete_at (rank_in keys key) keys
  unfolding changed_keys
  withdrawn_at m =
      let e = split-listed m in
      let e₁ : (keys_below key keys ++ key ∷ []) ++ keys_above key keys ≡ keys = append_assoc (keys_below key keys) (key ∷ []) (keys_above key keys) ∙ e in
      let n : length (keys_below key keys ++ key ∷ []) ≡ suc (rank_in keys key) = length-append (keys_below key keys) (key ∷ []) ∙ omega (arith, rank_is key keys) in
      let last : keys_above key keys ≡ drop (suc (rank_in keys key)) keys = sym (drop_at (keys_below key keys ++ key ∷ []) (keys_above key keys) (suc (rank_in keys key)) n) ∙ ap (drop (suc (rank_in keys key))) e₁ in
      λ i. before-rank (key ∷ keys_above key keys) e i ++ last i

-- ---- the keys of an accepted image, where 30 gets a yes

pub not_listed : (img : List ℕ) (key : ℕ) → can_change Add (is_in key (keys_of img)) ≡ true → Memᴰ key (keys_of img) → ⊥
unfolding can_change
not_listed img key e m = let z : not true ≡ true = sym (ap not (is_in-mem key (keys_of img) m)) ∙ e in let w : ◌≡◌ {A = ℕ} 0 1 = cc in omega arith

pub is_listed : (img : List ℕ) (key : ℕ) → can_change Withdraw (is_in key (keys_of img)) ≡ true → Memᴰ key (keys_of img)
unfolding can_change
is_listed img key e = mem-is_in key (keys_of img) e

-- so many keys there are then
pub changed_length : (change : Change) (img : List ℕ) → Accepted img → (key : ℕ) → can_change change (is_in key (keys_of img)) ≡ true → length (changed_keys change key (keys_of img)) ≡ changed_count change (key_count img)
unfolding changed_count
changed_length Add img i key can = let f = (facts img i).keys in omega (arith, add_length key (keys_of img) f.asc (not_listed img key can), f.count_is)
changed_length Withdraw img i key can = let f = (facts img i).keys in omega (arith, withdraw_length key (keys_of img) f.asc (is_listed img key can), f.count_is)

-- at most 4,096 keys afterwards
pub few_keys : (change : Change) (img : List ℕ) → Accepted img → few_enough change (key_count img) ≡ true → changed_count change (key_count img) ≤ 4096
unfolding few_enough
few_keys Add img i t = leb-true (changed_count Add (key_count img)) 4096 t
few_keys Withdraw img i t = (unfold changed_count in omega (arith, (facts img i).few))

-- ---- records

module _ (img records : List ℕ) (accepted : Accepted img) (size : length records ≡ records_length (key_count img)) (key : ℕ) where
  abbrev keys : List ℕ
  keys = keys_of img

  abbrev rank : ℕ
  rank = rank_in keys key

  -- the records that the keys below and above bring along, and that of the key itself
  abbrev before : List ℕ
  before = map (carried img records) (keys_below key keys)

  abbrev own : ℕ
  own = carried img records key

  abbrev after : List ℕ
  after = map (carried img records) (keys_above key keys)

  asc : Asc keys
  asc = (facts img accepted).keys.asc

  room : key_count img ≤ length records
  room = omega (arith, size)

  -- those of all keys are the buffer's first elements
  carried-all : map (carried img records) keys ≡ take (key_count img) records
  carried-all =
      let f = (facts img accepted).keys in
      map_same (carried img records) (record_of img records) keys (mem_all _ keys (λ k m. carried_own img records k m))
      ∙ own_records img records f.asc (omega (arith, f.count_is, room))
      ∙ ap (λ (n : ℕ). take n records) f.count_is

  before-length : length before ≡ rank
  before-length = length-map (keys_below key keys) (carried img records) ∙ rank_is key keys

  pub records_added : (Memᴰ key keys → ⊥) → changed_records Add img records key ≡ insert_at rank 0 records
  unfolding changed_records changed_keys
  records_added f =
      let e : before ++ after ≡ take (key_count img) records = sym (map-append (carried img records) (keys_below key keys) (keys_above key keys)) ∙ ap (map (carried img records)) (split-absent key keys asc f) ∙ carried-all in
      let few : rank ≤ key_count img = omega (arith, rank_le keys key, (facts img accepted).keys.count_is) in
      let first : before ≡ take rank records = take_front before after records (key_count img) rank e before-length few in
      let last : after ++ drop (key_count img) records ≡ drop rank records = drop_front before after records (key_count img) rank e before-length room few in
      ap (◌++ drop (key_count img) records) (map-append (carried img records) (keys_below key keys) (key ∷ keys_above key keys))
      ∙ append_assoc before (own ∷ after) (drop (key_count img) records)
      ∙ (λ i. first i ++ carried_none img records key f i ∷ last i)

  pub records_withdrawn : Memᴰ key keys → changed_records Withdraw img records key ≡ delete_at rank records
  unfolding changed_records changed_keys
  records_withdrawn m =
      let e : before ++ own ∷ after ≡ take (key_count img) records = sym (map-append (carried img records) (keys_below key keys) (key ∷ keys_above key keys)) ∙ ap (map (carried img records)) (split-listed key keys asc m) ∙ carried-all in
      let e₁ : (before ++ own ∷ []) ++ after ≡ take (key_count img) records = append_assoc before (own ∷ []) after ∙ e in
      let n : length (before ++ own ∷ []) ≡ suc rank = length-append before (own ∷ []) ∙ omega (arith, before-length) in
      let few : suc rank ≤ key_count img = omega (arith, (at_rank_lem keys key asc m).within, (facts img accepted).keys.count_is) in
      let first : before ≡ take rank records = take_front before (own ∷ after) records (key_count img) rank e before-length (omega arith) in
      let last : after ++ drop (key_count img) records ≡ drop (suc rank) records = drop_front (before ++ own ∷ []) after records (key_count img) (suc rank) e₁ n room few in
      ap (◌++ drop (key_count img) records) (map-append (carried img records) (keys_below key keys) (keys_above key keys))
      ∙ append_assoc before after (drop (key_count img) records)
      ∙ (λ i. first i ++ last i)
