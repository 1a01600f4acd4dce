-- A holder's record before and after an opening: it becomes time + 1 for the holder that opens, since 25 keeps it from falling, and every other holder's stays.
-- Assumes nothing.
use mathlib.Core.Path.{◌≡◌, refl, sym, ap, ◌∙◌}
use mathlib.Core.Bool.{cond}
use mathlib.Core.List.Memᴰ
use mathlib.Core.List.{List, map, Memᴰ}
use Prim.Native.Nat.{ℕ, zero, suc, ◌+◌, ◌≤◌, ◌<◌}
use native.Mathlib.Omega.{arith}
use native.Mathlib.Decide.{ℕ_discrete}
use lib.Dec.{eqb}
use borrow.Author.Tests.{eq-eqb, ne_eqb, eqb-true}
use lib.ListN.{length, get_or, replicate}
use Rattle.format.specs.Seq.{largest, rank_in}
use Rattle.format.specs.Key.{holder_of}
use Rattle.format.specs.Image.{keys_of}
use Rattle.format.specs.Scan.{holder_record, is_holders, keys_of_holder, largest_record, record_of}
use Rattle.format.proofs.Lists.{map_same}
use Rattle.format.proofs.Largest.{le_largest, map_le}
use Rattle.format.proofs.Trie.{Asc}
use Rattle.format.proofs.Members.{mem_all, mem-select, select-mem}
use Rattle.format.proofs.Checked.{cond_no, cond_yes}
use Rattle.format.proofs.Descent.{at_rank_lem}

-- ---- a holder's keys

module _ (img : List ℕ) (holder : ℕ) where
  -- each is a listed key, and the holder's
  pub mem_holder : (key : ℕ) → Memᴰ key (keys_of_holder img holder) → Memᴰ key (keys_of img) × (holder_of key ≡ holder)
  unfolding keys_of_holder is_holders
  mem_holder key m = let (t, e) = select-mem (is_holders holder) key (keys_of img) m in (t, eqb-true (holder_of key) holder e)

  -- the record of one of them is at most the holder's
  pub record_le : (records : List ℕ) (key : ℕ) → Memᴰ key (keys_of img) → holder_of key ≡ holder → record_of img records key ≤ holder_record img records holder
  unfolding holder_record largest_record keys_of_holder is_holders
  record_le records key m e =
      le_largest (record_of img records key) (map (record_of img records) (keys_of_holder img holder))
      (Memᴰ.map (record_of img records) (mem-select (is_holders holder) key (keys_of img) m (eq-eqb (holder_of key) holder e)))

-- ---- an opening

-- time + 1 at the rank of a listed key, the other records as they were; no record of its holder was above that
pub record Renewed (img records after : List ℕ) (key time : ℕ) : Type 0 where
  pub asc : Asc (keys_of img)
  pub listed : Memᴰ key (keys_of img)
  pub before : holder_record img records (holder_of key) ≤ time + 1
  pub ranks : (r : ℕ) → r < length (keys_of img) → get_or after r 0 ≡ cond (eqb (rank_in (keys_of img) key) r) (time + 1) (get_or records r 0)

module _ {img records after : List ℕ} {key time : ℕ} (o : Renewed img records after key time) where
  -- the key's own record
  own : record_of img after key ≡ time + 1
  unfolding record_of
  own = o.ranks (rank_in (keys_of img) key) (at_rank_lem (keys_of img) key o.asc o.listed).within ∙ cond_yes (eqb (rank_in (keys_of img) key) (rank_in (keys_of img) key)) _ _ (eq-eqb (rank_in (keys_of img) key) (rank_in (keys_of img) key) refl)

  -- every other key's
  other : (k : ℕ) → Memᴰ k (keys_of img) → (key ≡ k → ⊥) → record_of img after k ≡ record_of img records k
  unfolding record_of
  other k m ne =
      let a = at_rank_lem (keys_of img) k o.asc m in
      let b = at_rank_lem (keys_of img) key o.asc o.listed in
      o.ranks (rank_in (keys_of img) k) a.within
      ∙ cond_no (eqb (rank_in (keys_of img) key) (rank_in (keys_of img) k)) _ _
      (ne_eqb (rank_in (keys_of img) key) (rank_in (keys_of img) k) (λ e. ne (sym b.here ∙ ap (λ (r : ℕ). get_or (keys_of img) r 0) e ∙ a.here)))

  -- the record of the key's holder
  holder-renewed : holder_record img after (holder_of key) ≡ time + 1
  unfolding holder_record largest_record
  holder-renewed =
      let up : largest (map (record_of img after) (keys_of_holder img (holder_of key))) ≤ time + 1 =
      map_le (record_of img after) (time + 1) (keys_of_holder img (holder_of key))
      (λ k m. let (t, e) = mem_holder img (holder_of key) k m in elim (ℕ_discrete key k) [
        | yes d ↦ omega (arith, ap (record_of img after) (sym d) ∙ own)
        | no d ↦ omega (arith, other k t d, record_le img (holder_of key) records k t e, o.before)
      ]) in
      omega (arith, up, record_le img (holder_of key) after key o.listed refl, own)

  -- every other holder's
  holder-same : (holder : ℕ) → (holder_of key ≡ holder → ⊥) → holder_record img after holder ≡ holder_record img records holder
  unfolding holder_record largest_record
  holder-same holder ne =
      ap largest (map_same (record_of img after) (record_of img records) (keys_of_holder img holder) (mem_all (λ k. record_of img after k ≡ record_of img records k) (keys_of_holder img holder)
      (λ k m. let (t, e) = mem_holder img holder k m in other k t (λ d. ne (ap holder_of d ∙ e)))))

  -- a holder's record after it
  pub holder_after : (holder : ℕ) → holder_record img after holder ≡ cond (eqb (holder_of key) holder) (time + 1) (holder_record img records holder)
  holder_after holder =
      elim (ℕ_discrete (holder_of key) holder) [
        | yes d ↦ ap (holder_record img after) (sym d) ∙ holder-renewed ∙ sym (cond_yes (eqb (holder_of key) holder) (time + 1) (holder_record img records holder) (eq-eqb (holder_of key) holder d))
        | no d ↦ holder-same holder d ∙ sym (cond_no (eqb (holder_of key) holder) (time + 1) (holder_record img records holder) (ne_eqb (holder_of key) holder d))
      ]

-- where no record is set, no holder's is
pub holder_zeros : (img : List ℕ) (n holder : ℕ) → holder_record img (replicate n 0) holder ≡ 0
unfolding holder_record largest_record record_of
holder_zeros img n holder =
    let le = map_le (record_of img (replicate n 0)) 0 (keys_of_holder img holder) (λ k m. omega (arith, zero_at n (rank_in (keys_of img) k))) in
    omega (arith, le)
  where
    zero_at : (n r : ℕ) → get_or {A = ℕ} (replicate n 0) r 0 ≡ 0
    zero_at zero r = refl
    zero_at (suc n) zero = refl
    zero_at (suc n) (suc r) = zero_at n r
