-- Lookup's answer from the way down: the rank and the pages of a listed key, or absent with the number of smaller keys.
-- Assumes nothing.
use mathlib.Core.List.{List, map, Memᴰ}
use mathlib.Core.Path.{◌≡◌, sym, ap, ◌∙◌, subst}
use Prim.Native.Nat.{ℕ, suc, ◌+◌, ◌*◌, ◌-◌, ◌/◌, ◌^◌, ◌≤◌, ◌<◌}
use native.Mathlib.Omega.{arith}
use lib.ListN.{length, get_or}
use Rattle.format.specs.Seq.{All, is_in, rank_in, select}
use Rattle.format.specs.Page.{Byte}
use Rattle.format.specs.Image.{bands, key_count, keys_of, prefixes_at}
use Rattle.format.specs.Answer.{LookupAnswer, absent, listed, lookup_answer, page_of}
use Rattle.format.specs.Key.{key_bit}
use Rattle.format.proofs.Trie.{Asc}
use Rattle.format.proofs.Checked.{Checked, cond_yes, cond_no}
use Rattle.format.proofs.Descent.{is_in-mem, is_in-not, mem_at, rank_at, halve}
use Rattle.format.proofs.Levels.{prefixes_asc, prefixes_keys}
use Rattle.format.proofs.Back.{no_keys_listed}

-- a key's prefix one bit longer
pub longer : (key d : ℕ) → d < 32 → key / 2 ^ (32 - suc d) ≡ 2 * (key / 2 ^ (32 - d)) + key_bit key d
longer key d h =
    let e : 32 - d ≡ suc (31 - d) = omega arith in
    let f : 32 - suc d ≡ 31 - d = omega arith in
    let half : key / 2 ^ (32 - d) ≡ key / 2 ^ (31 - d) / 2 = ap (λ (w : ℕ). key / 2 ^ w) e ∙ halve key (31 - d) in
    ap (λ (w : ℕ). key / 2 ^ w) f ∙ omega arith

-- a key that is in the list
pub place_member : (img : List ℕ) (key : ℕ) → Memᴰ key (keys_of img) → lookup_answer img key ≡ listed (rank_in (keys_of img) key) (map (page_of img key) bands)
unfolding lookup_answer
place_member img key m = cond_yes (is_in key (keys_of img)) _ _ (is_in-mem key (keys_of img) m)

-- one that is not
pub place_absent : (img : List ℕ) (key : ℕ) → (Memᴰ key (keys_of img) → ⊥) → lookup_answer img key ≡ absent (rank_in (keys_of img) key)
unfolding lookup_answer
place_absent img key f = cond_no (is_in key (keys_of img)) _ _ (is_in-not key (keys_of img) f)

pub place_none : (img : List ℕ) (key : ℕ) → All Byte img → Checked img → key_count img ≡ 0 → lookup_answer img key ≡ absent 0
unfolding rank_in select
place_none img key a c z =
    let e = no_keys_listed img a c z in
    place_absent img key (λ m. mathlib.Core.List.Memᴰ.not-nil (subst (λ (l : List ℕ). Memᴰ key l) e m)) ∙ ap {B = LookupAnswer} (λ (l : List ℕ). absent (rank_in l key)) e

module _ (img : List ℕ) (a : All Byte img) (c : Checked img) (some : 1 ≤ key_count img) where
  -- the key whose number is n
  pub place_listed : (key n : ℕ) → n < length (prefixes_at img 32) → get_or (prefixes_at img 32) n 0 ≡ key → lookup_answer img key ≡ listed n (map (page_of img key) bands)
  place_listed key n h e =
      let k = prefixes_keys img in
      let h' : n < length (keys_of img) = rw k at h in
      let e' : get_or (keys_of img) n 0 ≡ key = rw k at e in
      let asc : Asc (keys_of img) = rw k at (prefixes_asc img a c some 32) in
      let m : Memᴰ key (keys_of img) = mathlib.Core.List.Memᴰ.cast (sym e') (mem_at (keys_of img) n h') in
      let r : rank_in (keys_of img) key ≡ n = ap (rank_in (keys_of img)) (sym e') ∙ rank_at (keys_of img) n asc h' in
      place_member img key m ∙ ap {B = LookupAnswer} (λ (t : ℕ). listed t (map (page_of img key) bands)) r
