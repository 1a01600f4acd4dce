-- The outputs of an edit: the new image and its list, the new records by admission, and the records of holders.
-- Assumes nothing.
use mathlib.Core.Path.{◌≡◌, refl, sym, ap, ◌∙◌}
use mathlib.Core.Bool.{Bool, true, false}
use mathlib.Core.List.{List, ◌++◌, map, Memᴰ}
use Prim.Native.Nat.{ℕ, ◌+◌, ◌≤◌}
use native.Mathlib.Omega.{arith}
use lib.ListN.{length, drop, length-drop}
use Rattle.format.specs.Seq.{is_in}
use Rattle.format.specs.Key.{Admissible, holder_of, key_of}
use Rattle.format.specs.Image.{key_count, keys_of, lift_of, list_of, version_of}
use Rattle.format.specs.Scan.{holder_record, keys_of_holder, largest_record, record_of, records_length}
use Rattle.format.specs.Exact.{Accepted}
use Rattle.format.proofs.Accepted.{accepted_of_yes, facts}
use Rattle.format.proofs.Descent.{is_in-mem, mem-is_in}
use Rattle.format.proofs.Forth.{Imaged, imaged}
use Rattle.format.proofs.Holders.{mem_holder, record_le}
use Rattle.format.proofs.Keys.{holder_of_key_of, key_of_injective, key_of_small, slot_of_key_of}
use Rattle.format.proofs.Largest.{map_le}
use Rattle.format.proofs.Members.{all_mem, mem-unwoven, unwoven-mem, unwoven_small}
use Rattle.edit.specs.declared.Change.{Change}
use Rattle.edit.specs.declared.Change.TheVariants.{Add, Withdraw}
use Rattle.edit.specs.Edit.{can_change, carried, changed_image, changed_keys, changed_records, few_enough}
use Rattle.edit.specs.Laws.{Changed, ListChanged, OneMore}
use Rattle.edit.proofs.ChangedKeys.{added_key, asc_changed, fits_changed, kept, of_other, of_withdraw}
use Rattle.edit.proofs.ChangedRecords.{carried_none, carried_own, counts_after, record_at, records_size}
use Rattle.edit.proofs.AtRank.{changed_length, few_keys, is_listed, not_listed}

-- ---- what 1 to 13, 21, 30 and 14 say

pub record Editable (change : Change) (img records : List ℕ) (holder slot : ℕ) : Type 0 where
  pub accepted : Accepted img
  pub size : length records ≡ records_length (key_count img)
  pub admissible : Admissible (holder, slot)
  pub can : can_change change (is_in (key_of holder slot) (keys_of img)) ≡ true
  pub few : few_enough change (key_count img) ≡ true

-- ---- the outputs

module _ (change : Change) (img records : List ℕ) (holder slot : ℕ) (e : Editable change img records holder slot) where
  abbrev key : ℕ
  key = key_of holder slot

  abbrev keys' : List ℕ
  keys' = changed_keys change key (keys_of img)

  abbrev img' : List ℕ
  img' = changed_image change img key

  abbrev records' : List ℕ
  records' = changed_records change img records key

  new-image : Imaged (lift_of img) keys'
  new-image =
      let f = facts img e.accepted in
      imaged (lift_of img) keys' f.lift (asc_changed key (keys_of img) f.keys.asc change) (fits_changed key (keys_of img) f.keys.asc change (key_of_small holder slot) f.keys.fits)
      (omega (arith, changed_length change img e.accepted key e.can, few_keys change img e.accepted e.few))

  pub new_accepted : Accepted img'
  unfolding changed_image
  new_accepted = let i = new-image in accepted_of_yes _ i.bytes i.is_accepted

  pub new_keys : keys_of img' ≡ keys'
  unfolding changed_image
  new_keys = new-image.list

  pub new_lift : lift_of img' ≡ lift_of img
  unfolding changed_image
  new_lift = new-image.its_lift

  new-version : version_of img' ≡ version_of img
  unfolding changed_image
  new-version = new-image.version ∙ sym (facts img e.accepted).version

  -- as many as the key count
  pub new_count : length (keys_of img') ≡ key_count img'
  new_count = (facts img' new_accepted).keys.count_is

  -- the new records, over the new image's own keys
  over-keys : records' ≡ map (carried img records) (keys_of img') ++ drop (key_count img) records
  unfolding changed_records
  over-keys = ap (λ (l : List ℕ). map (carried img records) l ++ drop (key_count img) records) (sym new_keys)

  new-record : (k : ℕ) → Memᴰ k (keys_of img') → record_of img' records' k ≡ carried img records k
  new-record k m =
      ap (λ (r : List ℕ). record_of img' r k) over-keys
      ∙ record_at img' (carried img records) (drop (key_count img) records) (facts img' new_accepted).keys.asc k m

  new-counts : drop (key_count img') records' ≡ drop (key_count img) records
  new-counts = ap (drop (key_count img')) over-keys ∙ counts_after img' (carried img records) (drop (key_count img) records) new_count

  pub new_size : length records' ≡ records_length (key_count img')
  new_size =
      let eight : length (drop (key_count img) records) ≡ 8 = length-drop (key_count img) records ∙ omega (arith, e.size) in
      ap length over-keys ∙ records_size img' (carried img records) (drop (key_count img) records) new_count ∙ ap (key_count img' +◌) eight

-- ---- holders

-- the record of a holder none of whose admissions is withdrawn
module _ (change : Change) (img records : List ℕ) (holder slot : ℕ) (e : Editable change img records holder slot) (h : ℕ) where
  -- each of the holder's new keys has the record that it had, or 0
  below_old : (k : ℕ) → Memᴰ k (keys_of_holder (changed_image change img (key_of holder slot)) h)
      → record_of (changed_image change img (key_of holder slot)) (changed_records change img records (key_of holder slot)) k ≤ holder_record img records h
  below_old k m =
      let (there, theirs) = mem_holder (changed_image change img (key_of holder slot)) h k m in
      let same = new-record change img records holder slot e k there in
      go (is_in k (keys_of img)) refl theirs same
    where
      go : (t : Bool) → is_in k (keys_of img) ≡ t → holder_of k ≡ h
          → record_of (changed_image change img (key_of holder slot)) (changed_records change img records (key_of holder slot)) k ≡ carried img records k
          → record_of (changed_image change img (key_of holder slot)) (changed_records change img records (key_of holder slot)) k ≤ holder_record img records h
      go true t theirs same = let was = mem-is_in k (keys_of img) t in omega (arith, same, carried_own img records k was, record_le img h records k was theirs)
      go false t theirs same = omega (arith, same, carried_none img records k (λ m. let z : ◌≡◌ {A = ℕ} 0 1 = cc (t, is_in-mem k (keys_of img) m) in omega arith))

  -- and each of the holder's keys is there with its record
  above-old : (change ≡ Withdraw → h ≡ holder → ⊥) → (k : ℕ) → Memᴰ k (keys_of_holder img h)
      → record_of img records k ≤ holder_record (changed_image change img (key_of holder slot)) (changed_records change img records (key_of holder slot)) h
  above-old other k m =
      let (was, theirs) = mem_holder img h k m in
      let there : Memᴰ k (keys_of (changed_image change img (key_of holder slot))) = rw (new_keys change img records holder slot e) (kept (key_of holder slot) (keys_of img) change k was (λ d. not_own change e other was theirs d)) in
      omega (arith, new-record change img records holder slot e k there, carried_own img records k was, record_le (changed_image change img (key_of holder slot)) h (changed_records change img records (key_of holder slot)) k there theirs)
    where
      not_own : (c : Change) → Editable c img records holder slot → (c ≡ Withdraw → h ≡ holder → ⊥) → Memᴰ k (keys_of img) → holder_of k ≡ h → k ≡ key_of holder slot → ⊥
      not_own Add d f was theirs k-is = not_listed img (key_of holder slot) d.can (mathlib.Core.List.Memᴰ.cast (sym k-is) was)
      not_own Withdraw d f was theirs k-is = f refl (sym theirs ∙ ap holder_of k-is ∙ holder_of_key_of holder slot d.admissible.0)

  holder-same : (change ≡ Withdraw → h ≡ holder → ⊥) → holder_record (changed_image change img (key_of holder slot)) (changed_records change img records (key_of holder slot)) h ≡ holder_record img records h
  unfolding holder_record largest_record
  holder-same other =
      omega (
        arith,
        map_le (record_of (changed_image change img (key_of holder slot)) (changed_records change img records (key_of holder slot))) (holder_record img records h) (keys_of_holder (changed_image change img (key_of holder slot)) h) below_old,
        map_le (record_of img records) (holder_record (changed_image change img (key_of holder slot)) (changed_records change img records (key_of holder slot)) h) (keys_of_holder img h) (above-old other),
      )

-- ---- the list

-- an admission is listed exactly when its key is
listed_key : (img : List ℕ) → Accepted img → (a : ℕ × ℕ) → Memᴰ a (list_of img) → Memᴰ (key_of a.0 a.1) (keys_of img)
unfolding list_of
listed_key img i a m = unwoven-mem a (keys_of img) (facts img i).keys.fits m

key_listed : (img : List ℕ) (a : ℕ × ℕ) → Admissible a → Memᴰ (key_of a.0 a.1) (keys_of img) → Memᴰ a (list_of img)
unfolding list_of
key_listed img a small m = mathlib.Core.List.Memᴰ.cast (λ i. (sym (holder_of_key_of a.0 a.1 small.0) i, sym (slot_of_key_of a.0 a.1 small.1) i)) (mem-unwoven (key_of a.0 a.1) (keys_of img) m)

listed_small : (img : List ℕ) (a : ℕ × ℕ) → Memᴰ a (list_of img) → Admissible a
unfolding list_of
listed_small img a m = all_mem Admissible a (list_of img) (unwoven_small (keys_of img)) m

-- two lists that agree in every key but one
one_more : (less more : List ℕ) → Accepted less → Accepted more → (holder slot : ℕ) → Admissible (holder, slot)
    → (Memᴰ (key_of holder slot) (keys_of less) → ⊥) → Memᴰ (key_of holder slot) (keys_of more)
    → ((k : ℕ) → (k ≡ key_of holder slot → ⊥) → Memᴰ k (keys_of less) → Memᴰ k (keys_of more))
    → ((k : ℕ) → (k ≡ key_of holder slot → ⊥) → Memᴰ k (keys_of more) → Memᴰ k (keys_of less)) → OneMore less more (holder, slot)
one_more less more il im holder slot small out in-more up down =
    record {
      absent = λ m. out (listed_key less il (holder, slot) m);
      inserted = record {
        there = key_listed more (holder, slot) small in-more;
        others = λ a ne. (
          λ m. let s = listed_small less a m in key_listed more a s (up (key_of a.0 a.1) (λ d. ne (same a s d)) (listed_key less il a m)),
          λ m. let s = listed_small more a m in key_listed less a s (down (key_of a.0 a.1) (λ d. ne (same a s d)) (listed_key more im a m)),
        );
      };
    }
  where
    same : (a : ℕ × ℕ) → Admissible a → key_of a.0 a.1 ≡ key_of holder slot → a ≡ (holder, slot)
    same a s d = let (h, t) = key_of_injective a.0 a.1 holder slot s.0 s.1 small.0 small.1 d in λ i. (h i, t i)

list_changed : (change : Change) (img records : List ℕ) (holder slot : ℕ) (e : Editable change img records holder slot) → ListChanged change img (changed_image change img (key_of holder slot)) (holder, slot)
list_changed Add img records holder slot e =
    let same = new_keys Add img records holder slot e in
    one_more img _ e.accepted (new_accepted Add img records holder slot e) holder slot e.admissible (not_listed img (key_of holder slot) e.can)
    (rw same (added_key (key_of holder slot) (keys_of img)))
    (λ k ne m. rw same (kept (key_of holder slot) (keys_of img) Add k m ne))
    (λ k ne m. of_other (key_of holder slot) (keys_of img) Add k (rw same at m) ne)
list_changed Withdraw img records holder slot e =
    let same = new_keys Withdraw img records holder slot e in
    one_more _ img (new_accepted Withdraw img records holder slot e) e.accepted holder slot e.admissible (λ m. (of_withdraw (key_of holder slot) (keys_of img) (key_of holder slot) (rw same at m)).1 refl)
    (is_listed img (key_of holder slot) e.can)
    (λ k ne m. of_other (key_of holder slot) (keys_of img) Withdraw k (rw same at m) ne)
    (λ k ne m. rw same (kept (key_of holder slot) (keys_of img) Withdraw k m ne))

pub changed_is : (change : Change) (img records : List ℕ) (holder slot : ℕ) (e : Editable change img records holder slot)
    → Changed change img records holder slot (changed_image change img (key_of holder slot)) (changed_records change img records (key_of holder slot))
changed_is change img records holder slot e =
    record {
      accepted = new_accepted change img records holder slot e;
      version = new-version change img records holder slot e;
      lift = new_lift change img records holder slot e;
      list = list_changed change img records holder slot e;
      others = λ h s m n.
          new-record change img records holder slot e (key_of h s) (listed_key _ (new_accepted change img records holder slot e) (h, s) n)
          ∙ carried_own img records (key_of h s) (listed_key img e.accepted (h, s) m);
      new = λ a. new-one change a e;
      counts = new-counts change img records holder slot e;
      lockouts = holder-same change img records holder slot e;
    }
  where
    new-one : (c : Change) → c ≡ Add → (d : Editable c img records holder slot) → record_of (changed_image c img (key_of holder slot)) (changed_records c img records (key_of holder slot)) (key_of holder slot) ≡ 0
    new-one Add a d = new-record Add img records holder slot d (key_of holder slot) (rw (new_keys Add img records holder slot d) (added_key (key_of holder slot) (keys_of img))) ∙ carried_none img records (key_of holder slot) (not_listed img (key_of holder slot) d.can)
    new-one Withdraw a d = absurd (let w : ◌≡◌ {A = ℕ} 0 1 = cc in omega arith)
