-- The largest record of a holder's keys below an out-link.
-- Assumes nothing.
use mathlib.Core.Bool.{true}
use mathlib.Core.List.{List}
use mathlib.Core.Path.{◌≡◌, sym, ap, subst, ◌∙◌}
use Prim.Native.Nat.{ℕ, ◌+◌, ◌-◌, ◌*◌, ◌/◌, ◌^◌, ◌≤◌, ◌<◌}
use native.Mathlib.Nat.{div-one}
use native.Mathlib.Omega.{arith}
use borrow.Author.Tests.{eq-eqb}
use lib.ListN.{length, get_or}
use Rattle.format.specs.Seq.{rank_in}
use Rattle.format.specs.Image.{key_count, keys_of}
use Rattle.format.specs.Key.{holder_of}
use Rattle.format.specs.Scan.{is_holders, largest_record, record_of}
use Rattle.format.proofs.Accepted.{facts}
use Rattle.format.proofs.Descent.{rank_at}
use Rattle.format.proofs.Largest.{largest_record_one}
use Rattle.subtries.specs.Spot.{root_prefix}
use Rattle.walk.specs.Walk.{Opening, members_between}
use Rattle.walk.proofs.Steps.{key_here, key_within, keys_asc, members_key}
use Rattle.holder.specs.Below.{HasBits, below_record}

-- ---- below an out-link

module _ {img : List ℕ} {b link x : ℕ} (o : Opening img b link x) where
  -- what is below an out-link, by its prefix
  pub below-is : (records : List ℕ) (holder : ℕ) → below_record img records holder b link ≡ largest_record img records (members_between img (is_holders holder) (x * 2 ^ (36 - 4 * b)) ((x + 1) * 2 ^ (36 - 4 * b)))
  unfolding below_record
  below-is records holder = ap (λ (y : ℕ). largest_record img records (members_between img (is_holders holder) (y * 2 ^ (36 - 4 * b)) ((y + 1) * 2 ^ (36 - 4 * b)))) o.at.prefix

  -- it has the holder's bits where its prefix has them
  pub has_bits_of : {holder : ℕ} → holder_of x ≡ holder / 2 ^ (18 - 2 * b) → HasBits img holder b link
  has_bits_of e = record { opening = subst (Opening img b link) (sym o.at.prefix) o; bits = ap holder_of o.at.prefix ∙ e }

-- ---- out of band 8: a key, of which the out-link's number is the rank

module _ {img : List ℕ} {holder number link : ℕ} (has : HasBits img holder number link) (nine : number ≡ 9) where
  -- the key is the holder's
  key-is-holders : is_holders holder (root_prefix img number link) ≡ true
  unfolding is_holders
  key-is-holders =
      let w : 18 - 2 * number ≡ 0 = omega arith in
      eq-eqb (holder_of (root_prefix img number link)) holder (has.bits ∙ ap (λ (n : ℕ). holder / 2 ^ n) w ∙ div-one holder)

  -- it has a record
  pub rank_within : (records : List ℕ) → key_count img ≤ length records → link < length records
  rank_within records h = omega (arith, key_within has.opening nine, (facts img has.opening.ready.accepted).keys.count_is)

  -- which is the largest, since it is the only one
  pub below_key : (records : List ℕ) → get_or records link 0 ≡ below_record img records holder number link
  unfolding below_record record_of
  below_key records =
      let rank = ap (rank_in (keys_of img)) (sym (key_here has.opening nine)) ∙ rank_at (keys_of img) link (keys_asc has.opening.ready) (key_within has.opening nine) in
      sym (ap (largest_record img records) (members_key has.opening nine (is_holders holder) key-is-holders) ∙ largest_record_one img records (root_prefix img number link) ∙ ap (λ (n : ℕ). get_or records n 0) rank)
