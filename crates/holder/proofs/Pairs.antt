-- A pair of endings of a subtrie: its first out-link's number, and what is below it.
-- Assumes nothing.
use mathlib.Core.Bool.{Bool}
use mathlib.Core.List.{List}
use mathlib.Core.Path.{◌≡◌, refl, sym, ap, ap₂, ◌∙◌}
use Prim.Native.Nat.{ℕ, zero, suc, ◌+◌, ◌-◌, ◌*◌, ◌/◌, ◌%◌, ◌^◌, ◌≤◌, ◌<◌, max}
use native.Mathlib.Nat.{add-zero}
use native.Mathlib.Omega.{arith}
use lib.Count.{ones}
use lib.Pow.{shr-shr}
use Rattle.format.specs.Key.{holder_of}
use Rattle.format.specs.Scan.{is_holders, largest_record}
use Rattle.format.specs.Seq.{is_in, rank_in}
use Rattle.format.specs.Image.{prefixes_at}
use Rattle.format.proofs.Largest.{largest_record_append, largest_record_none}
use Rattle.format.proofs.Levels.{prefixes_asc}
use Rattle.pages.proofs.Pages.{bytes, checked}
use Rattle.subtries.specs.Subtrie.{set_bit, set_of}
use Rattle.subtries.proofs.Next.{rank_run}
use Rattle.subtries.proofs.Sets.{set_first}
use Rattle.walk.specs.Walk.{Walking, members_between}
use Rattle.walk.proofs.Chains.{under_split}
use Rattle.walk.proofs.Steps.{link_small, none_here, opening_on, walking_off, walking_on}
use Rattle.walk.proofs.Walked.{under}
use Rattle.holder.specs.Below.{PairHasBits, below_record, pair_record}
use Rattle.holder.proofs.Records.{below-is, has_bits_of}

-- ---- by its two bits

module _ (img records : List ℕ) (holder number link : ℕ) where
  -- both bits off
  pub pair_none : (on : ℕ) → on ≡ 0 → 0 ≡ pair_record img records holder number on link
  unfolding pair_record
  pair_none zero e = refl
  pair_none (suc on) e = absurd (omega arith)

  -- one of them on
  pub pair_one : (on : ℕ) → (on ≡ 0 → ⊥) → on < 3 → below_record img records holder number link ≡ pair_record img records holder number on link
  unfolding pair_record
  pair_one zero some h = absurd (some refl)
  pair_one (suc zero) some h = refl
  pair_one (suc (suc zero)) some h = refl
  pair_one (suc (suc (suc on))) some h = absurd (omega arith)

  -- both on
  pub pair_both : (on : ℕ) → 3 ≤ on → max (below_record img records holder number link) (below_record img records holder number (link + 1)) ≡ pair_record img records holder number on link
  unfolding pair_record
  pair_both zero h = absurd (omega arith)
  pair_both (suc zero) h = absurd (omega arith)
  pair_both (suc (suc zero)) h = absurd (omega arith)
  pair_both (suc (suc (suc on))) h = refl

-- ---- its first out-link

-- the out-links before an ending are the on bits before it
pub walking_at : {img : List ℕ} {b set first x : ℕ} → Walking img b set first x 0 → (v : ℕ) → v ≤ 16 → Walking img b set (first + ones (set / 2 ^ (16 - v))) x v
walking_at {img} {b} {set} {first} {x} s v h =
    let l : List ℕ = prefixes_at img (4 * b) in
    let f : ℕ → Bool = λ u. is_in (16 * x + u) l in
    let e : 16 ≡ v + (16 - v) = omega arith in
    let q : set / 2 ^ (16 - v) ≡ set_of f v = ap (◌/ 2 ^ (16 - v)) (s.set_is ∙ ap (set_of f) e) ∙ set_first f v (16 - v) in
    record {
      ready = s.ready;
      from = s.from;
      to = s.to;
      short = s.short;
      set_is = s.set_is;
      link_is = ap₂ (λ (a n : ℕ). a + ones n) (s.link_is ∙ ap (rank_in l) (add-zero (16 * x))) q
          ∙ sym (rank_run l (16 * x) v (prefixes_asc img (bytes s.ready) (checked s.ready) s.ready.some (4 * b)));
    }

-- ---- one ending

module _ {img : List ℕ} {b set link x v : ℕ} (s : Walking img b set link x v) (h : v < 16) (records : List ℕ) (holder : ℕ) where
  -- up to the next ending, as the walk has it
  one-ending : under img (is_holders holder) b x v (v + 1) ≡ members_between img (is_holders holder) ((16 * x + v) * 2 ^ (36 - 4 * (b + 1))) ((16 * x + v + 1) * 2 ^ (36 - 4 * (b + 1)))
  one-ending =
      let e : 16 * x + (v + 1) ≡ 16 * x + v + 1 = omega arith in
      ap (λ (n : ℕ). members_between img (is_holders holder) ((16 * x + v) * 2 ^ (36 - 4 * (b + 1))) (n * 2 ^ (36 - 4 * (b + 1)))) e

  -- an off bit
  ending-off : set_bit set 16 v ≡ 0 → largest_record img records (under img (is_holders holder) b x v (v + 1)) ≡ 0
  ending-off off = largest_record_none img records (one-ending ∙ none_here s h off (is_holders holder))

  -- an on bit
  ending-on : set_bit set 16 v ≡ 1 → largest_record img records (under img (is_holders holder) b x v (v + 1)) ≡ below_record img records holder (b + 1) link
  ending-on on = ap (largest_record img records) one-ending ∙ sym (below-is (opening_on s h on) records holder)

-- ---- two endings, which have the holder's bits

-- what is below a pair, and that its out-links have the holder's bits
pub record PairRight (img records : List ℕ) (holder b x v on link : ℕ) : Type 0 where
  pub is : largest_record img records (under img (is_holders holder) b x v (v + 2)) ≡ pair_record img records holder (b + 1) on link
  pub has_bits : PairHasBits img holder (b + 1) on link

module _ {img : List ℕ} {b set link x v : ℕ} (s : Walking img b set link x v) (h : v < 15) (records : List ℕ) (holder : ℕ)
    (first : holder_of (16 * x + v) ≡ holder / 2 ^ (18 - 2 * (b + 1))) (second : holder_of (16 * x + (v + 1)) ≡ holder / 2 ^ (18 - 2 * (b + 1))) where
  -- the one and the other
  both : largest_record img records (under img (is_holders holder) b x v (v + 2))
      ≡ max (largest_record img records (under img (is_holders holder) b x v (v + 1))) (largest_record img records (under img (is_holders holder) b x (v + 1) (v + 1 + 1)))
  both =
      let e : v + 2 ≡ v + 1 + 1 = omega arith in
      ap (λ (n : ℕ). largest_record img records (under img (is_holders holder) b x v n)) e
      ∙ ap (largest_record img records) (under_split img (is_holders holder) b x s.ready v (v + 1) (v + 1 + 1) (omega arith) (omega arith))
      ∙ largest_record_append img records (under img (is_holders holder) b x v (v + 1)) (under img (is_holders holder) b x (v + 1) (v + 1 + 1))

  -- by the set's two bits
  by_bits : (on : ℕ) → on < 4 → set_bit set 16 v ≡ on / 2 → set_bit set 16 (v + 1) ≡ on % 2 → PairRight img records holder b x v on link
  unfolding pair_record
  by_bits zero k p q =
      record {
        is = both ∙ omega (arith, ending-off s (omega arith) records holder p, ending-off (walking_off s (omega arith) p) (omega arith) records holder q);
        has_bits = record { small = k; few = link_small s; first = λ n. absurd (n refl); second = λ e. absurd (omega arith) };
      }
  by_bits (suc zero) k p q =
      let w = walking_off s (omega arith) p in
      record {
        is = both ∙ omega (arith, ending-off s (omega arith) records holder p, ending-on w (omega arith) records holder q);
        has_bits = record { small = k; few = link_small s; first = λ n. has_bits_of (opening_on w (omega arith) q) second; second = λ e. absurd (omega arith) };
      }
  by_bits (suc (suc zero)) k p q =
      record {
        is = both ∙ omega (arith, ending-on s (omega arith) records holder p, ending-off (walking_on s (omega arith) p) (omega arith) records holder q);
        has_bits = record { small = k; few = link_small s; first = λ n. has_bits_of (opening_on s (omega arith) p) first; second = λ e. absurd (omega arith) };
      }
  by_bits (suc (suc (suc zero))) k p q =
      let w = walking_on s (omega arith) p in
      record {
        is = both ∙ ap₂ max (ending-on s (omega arith) records holder p) (ending-on w (omega arith) records holder q);
        has_bits = record { small = k; few = link_small s; first = λ n. has_bits_of (opening_on s (omega arith) p) first; second = λ e. has_bits_of (opening_on w (omega arith) q) second };
      }
  by_bits (suc (suc (suc (suc n)))) k p q = absurd (omega arith)

  -- as `pair_at` reads them
  pub pair_right : {on : ℕ} → on ≡ set / 2 ^ (14 - v) % 4 → PairRight img records holder b x v on link
  pair_right {on} e =
      let d : 14 - v + 1 ≡ 15 - v = omega arith in
      let d' : 15 - (v + 1) ≡ 14 - v = omega arith in
      let q : set / 2 ^ (14 - v) / 2 ≡ set / 2 ^ (15 - v) = shr-shr set (14 - v) 1 ∙ ap (λ (n : ℕ). set / 2 ^ n) d in
      by_bits on (omega arith) (omega arith) (omega (arith, ap (λ (n : ℕ). set / 2 ^ n) d'))
