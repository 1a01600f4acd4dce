-- What a holder has below a root: below two pairs of endings of its subtrie. Below root 0 of band 1 it is all.
-- Assumes nothing.
use mathlib.Core.List.{List}
use mathlib.Core.Path.{◌≡◌, refl, sym, ap, ap₂, subst, ◌∙◌}
use Prim.Native.Nat.{ℕ, ◌+◌, ◌*◌, ◌≤◌, ◌<◌, max}
use native.Mathlib.Nat.{div-eq_of_lt}
use native.Mathlib.Omega.{arith}
use Rattle.format.specs.Exact.{Accepted}
use Rattle.format.specs.Image.{key_count}
use Rattle.format.specs.Key.{gather, holder_of}
use Rattle.format.specs.Scan.{holder_record, is_holders, keys_of_holder, largest_record}
use Rattle.format.specs.Seq.{select}
use Rattle.format.proofs.Accepted.{facts}
use Rattle.format.proofs.Back.{no_keys_listed}
use Rattle.format.proofs.Largest.{largest_record_append, largest_record_none}
use Rattle.pages.specs.Page.{Ready}
use Rattle.subtries.specs.Spot.{root_prefix}
use Rattle.subtries.specs.Subtrie.{SubtrieRead}
use Rattle.walk.specs.Walk.{Walking}
use Rattle.walk.proofs.Steps.{link_small, members_same, walking_start}
use Rattle.walk.proofs.Walked.{under}
use Rattle.walk.proofs.Whole.{opening_start, passing_whole}
use Rattle.holder.specs.declared.Pair.{Pair}
use Rattle.holder.specs.Below.{HasBits, PairRead, below_record, first_ending, pair_record}
use Rattle.holder.proofs.Records.{below-is, has_bits_of}
use Rattle.holder.proofs.Endings.{ending_has_bits, first_ending_few, has_bits_next, two_pairs}
use Rattle.holder.proofs.Pairs.{PairRight, pair_right, walking_at}

module _ {img : List ℕ} {holder number root set first : ℕ} (has : HasBits img holder number root) (h : number ≤ 8) (s : SubtrieRead img number (root_prefix img number root) set first) where
  -- its endings, from the first on
  start : Walking img number set first (root_prefix img number root) 0
  start = walking_start has.opening h refl s

  -- its first out-link's number is small
  pub first_few : first < 65536
  first_few = link_small start

  module _ (records : List ℕ) where
    -- the first pair that has the holder's bits, or the second
    pub pair_has_bits : (t v : ℕ) {pair : Pair} → t < 2 → v ≡ first_ending holder number + 4 * t → PairRead set first v pair → PairRight img records holder number (root_prefix img number root) v pair.on pair.link.0
    pair_has_bits t v {pair} k e r =
        let small : v < 15 = omega (arith, first_ending_few holder number) in
        let next = has_bits_next holder start has.bits in
        subst (PairRight img records holder number (root_prefix img number root) v pair.on) (sym r.link_is)
        (pair_right (walking_at start v (omega arith)) small records holder
        (next v (omega arith) (ending_has_bits holder number t 0 v k (omega arith) (omega arith)))
        (next (v + 1) (omega arith) (ending_has_bits holder number t 1 (v + 1) k (omega arith) (omega arith)))
        r.on_is)

    -- all that the holder has below the root is below these two
    pub subtrie_record : {upper lower : Pair} → PairRead set first (first_ending holder number) upper → PairRead set first (first_ending holder number + 4) lower
        → below_record img records holder number root ≡ max (pair_record img records holder (number + 1) upper.on upper.link.0) (pair_record img records holder (number + 1) lower.on lower.link.0)
    unfolding below_record
    subtrie_record p q =
        let e : ℕ = first_ending holder number in
        let x : ℕ = root_prefix img number root in
        ap (largest_record img records) (members_same has.opening h (is_holders holder) ∙ two_pairs holder start has.bits)
        ∙ largest_record_append img records (under img (is_holders holder) number x e (e + 2)) (under img (is_holders holder) number x (e + 4) (e + 4 + 2))
        ∙ ap₂ max (pair_has_bits 0 e (omega arith) (omega arith) p).is (pair_has_bits 1 (e + 4) (omega arith) (omega arith) q).is

-- ---- the whole image

module _ {img : List ℕ} (r : Ready img) where
  -- root 0 of band 1 has every holder's bits: none is read yet
  pub has_bits_start : (holder : ℕ) → holder < 65536 → HasBits img holder 1 0
  unfolding holder_of gather
  has_bits_start holder h = has_bits_of (opening_start r) (sym (div-eq_of_lt h))

  -- all of the holder's keys are below it
  pub whole_record : (records : List ℕ) (holder : ℕ) → below_record img records holder 1 0 ≡ holder_record img records holder
  unfolding holder_record keys_of_holder
  whole_record records holder = below-is (opening_start r) records holder ∙ ap (largest_record img records) (passing_whole r.accepted (is_holders holder))

-- an image without keys
pub empty_record : {img : List ℕ} → Accepted img → (records : List ℕ) (holder : ℕ) → key_count img ≡ 0 → holder_record img records holder ≡ 0
unfolding holder_record keys_of_holder select
empty_record {img} a records holder z = largest_record_none img records (ap (select (is_holders holder)) (no_keys_listed img a.bytes (facts img a).questions z))
