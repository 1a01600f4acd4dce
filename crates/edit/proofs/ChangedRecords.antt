-- The records of a changed list, by key.
-- Assumes nothing.
use mathlib.Core.Path.{◌≡◌, refl, sym, ap, ◌∙◌}
use mathlib.Core.List.{List, [], ◌∷◌, ◌++◌, map, Memᴰ}
use Prim.Native.Nat.{ℕ, zero, suc, ◌+◌, ◌≤◌, ◌<◌}
use native.Mathlib.Omega.{arith}
use lib.ListN.{length, get_or, take, drop, length-append, length-map, get_or-append}
use lib.Seq.{drop_at, ext_get_or, get_or-take, length-take-le}
use Rattle.format.specs.Seq.{is_in, rank_in}
use Rattle.format.specs.Image.{key_count, keys_of}
use Rattle.format.specs.Scan.{record_of}
use Rattle.format.proofs.Trie.{Asc}
use Rattle.format.proofs.Checked.{cond_yes, cond_no}
use Rattle.format.proofs.Descent.{at_rank_lem, is_in-mem, is_in-not, rank_at}
use Rattle.edit.specs.Edit.{carried}

-- ---- what a key brings along

module _ (img records : List ℕ) (key : ℕ) where
  pub carried_own : Memᴰ key (keys_of img) → carried img records key ≡ record_of img records key
  unfolding carried
  carried_own m = cond_yes (is_in key (keys_of img)) (record_of img records key) 0 (is_in-mem key (keys_of img) m)

  pub carried_none : (Memᴰ key (keys_of img) → ⊥) → carried img records key ≡ 0
  unfolding carried
  carried_none f = cond_no (is_in key (keys_of img)) (record_of img records key) 0 (is_in-not key (keys_of img) f)

-- ---- numbers told by a function at the ranks of keys, then counts

mapped_at : (f : ℕ → ℕ) (l : List ℕ) (i : ℕ) → i < length l → get_or (map f l) i 0 ≡ f (get_or l i 0)
mapped_at f [] i h = absurd (omega arith)
mapped_at f (x ∷ l) zero h = refl
mapped_at f (x ∷ l) (suc i) h = mapped_at f l i (omega arith)

module _ (img' : List ℕ) (f : ℕ → ℕ) (counts : List ℕ) where
  -- the record of a key
  pub record_at : Asc (keys_of img') → (key : ℕ) → Memᴰ key (keys_of img') → record_of img' (map f (keys_of img') ++ counts) key ≡ f key
  unfolding record_of
  record_at asc key m =
      let r = at_rank_lem (keys_of img') key asc m in
      get_or-append (map f (keys_of img')) counts 0 (rank_in (keys_of img') key) (omega (arith, r.within, length-map (keys_of img') f))
      ∙ mapped_at f (keys_of img') (rank_in (keys_of img') key) r.within
      ∙ ap f r.here

  module _ (count : length (keys_of img') ≡ key_count img') where
    pub counts_after : drop (key_count img') (map f (keys_of img') ++ counts) ≡ counts
    counts_after = drop_at (map f (keys_of img')) counts (key_count img') (length-map (keys_of img') f ∙ count)

    pub records_size : length (map f (keys_of img') ++ counts) ≡ key_count img' + length counts
    records_size = length-append (map f (keys_of img')) counts ∙ omega (arith, length-map (keys_of img') f)

-- the records of all keys, in order, are the buffer's first elements
pub own_records : (img records : List ℕ) → Asc (keys_of img) → length (keys_of img) ≤ length records → map (record_of img records) (keys_of img) ≡ take (length (keys_of img)) records
unfolding record_of
own_records img records asc h =
    ext_get_or 0 (map (record_of img records) (keys_of img)) (take (length (keys_of img)) records) (length-map (keys_of img) (record_of img records) ∙ sym (length-take-le (length (keys_of img)) records h))
    (λ i l. let k : i < length (keys_of img) = omega (arith, length-map (keys_of img) (record_of img records)) in
    mapped_at (record_of img records) (keys_of img) i k ∙ ap (λ (r : ℕ). get_or records r 0) (rank_at (keys_of img) i asc k) ∙ sym (get_or-take (length (keys_of img)) records i 0 k))
