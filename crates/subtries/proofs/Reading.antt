-- A level of a subtrie read bit by bit.
-- Assumes nothing.
use mathlib.Core.List.{List}
use mathlib.Core.Path.{◌≡◌, refl, sym, ap, ap₂, ◌∙◌}
use Prim.Native.Nat.{ℕ, zero, suc, ◌+◌, ◌-◌, ◌*◌, ◌/◌, ◌%◌, ◌^◌, ◌≤◌, ◌<◌}
use native.Mathlib.Nat.{add-zero, one-mul, pow-suc, pow-le-pow_right, zero-mul}
use native.Mathlib.Omega.{arith}
use lib.ListN.{length}
use Rattle.reader.specs.Page.{node_of}
use Rattle.subtries.specs.Subtrie.{place_after, bits_after, set_bit, if_on}

place_rises : (set w p v k : ℕ) → place_after set w p v ≤ place_after set w p (v + k)
unfolding place_after
place_rises set w p v zero = omega (arith, ap (place_after set w p) (add-zero v))
place_rises set w p v (suc k) =
    let e : v + suc k ≡ suc (v + k) = omega arith in
    omega (arith, place_rises set w p v k, ap (place_after set w p) e)

-- a node under a bit
pub bit_times : (b n : ℕ) → b ≤ 1 → n < 4 → b * n < 4
bit_times zero n h k = omega (arith, zero-mul n)
bit_times (suc zero) n h k = omega (arith, one-mul n)
bit_times (suc (suc b)) n h k = absurd (omega arith)

-- `left` bits of the set are still to come
pub record Reading (page : List ℕ) (set w p bits at left : ℕ) : Type 0 where
  pub long : length page ≡ 64
  pub wide : w ≤ 8
  pub to : left ≤ w
  pub room : place_after set w p w ≤ 240
  pub at_is : at ≡ place_after set w p (w - left)
  pub bits_is : bits ≡ bits_after page set w p (w - left)
  pub small : bits < 4 ^ (w - left)

pub reading_start : {page : List ℕ} {set w p : ℕ} → length page ≡ 64 → w ≤ 8 → place_after set w p w ≤ 240 → Reading page set w p 0 p w
reading_start {page} {set} {w} {p} l h k =
    let z : w - w ≡ 0 = omega arith in
    record {
      long = l;
      wide = h;
      to = omega arith;
      room = k;
      at_is = sym (ap (place_after set w p) z ∙ (unfold place_after in refl));
      bits_is = sym (ap (bits_after page set w p) z ∙ (unfold bits_after in refl));
      small = omega (arith, ap (4 ^◌) z);
    }

module _ {page : List ℕ} {set w p bits at left : ℕ} (s : Reading page set w p bits at left) (h : 0 < left) where
  next-v : w - (left - 1) ≡ suc (w - left)
  next-v = omega (arith, s.to)

  bit-here : set_bit set w (w - left) ≡ set / 2 ^ (left - 1) % 2
  bit-here = let e : w - 1 - (w - left) ≡ left - 1 = omega (arith, s.to) in ap (λ (n : ℕ). set / 2 ^ n % 2) e

  pub reading_small : bits < 16384
  reading_small = omega (arith, s.small, pow-le-pow_right {n = 4} (omega arith) {i = w - left} {j = 7} (omega (arith, s.wide)))

  module _ (b : ℕ) (eb : set / 2 ^ (left - 1) % 2 ≡ b) where
    place-next : place_after set w p (w - (left - 1)) ≡ at + b
    unfolding place_after
    place-next = ap (place_after set w p) next-v ∙ ap₂ ◌+◌ (sym s.at_is) (bit-here ∙ eb)

    bits-next : bits_after page set w p (w - (left - 1)) ≡ 4 * bits + if_on b (node_of page at)
    unfolding bits_after
    bits-next =
        ap (bits_after page set w p) next-v
        ∙ ap₂ ◌+◌ (ap (4 *◌) (sym s.bits_is)) (ap₂ (λ (c q : ℕ). if_on c (node_of page q)) (bit-here ∙ eb) (sym s.at_is))

    pow-next : 4 ^ (w - (left - 1)) ≡ 4 ^ (w - left) * 4
    pow-next = ap (4 ^◌) next-v ∙ pow-suc 4 (w - left)

  -- a bit more: its node, if it is on
  pub reading_next : (b n : ℕ) → b ≡ set / 2 ^ (left - 1) % 2 → n < 4 → (b ≡ 1 → n ≡ node_of page at) → Reading page set w p (4 * bits + b * n) (at + b) (left - 1)
  reading_next b n eb few en =
      record {
        long = s.long;
        wide = s.wide;
        to = omega (arith, s.to);
        room = s.room;
        at_is = sym (place-next b (sym eb));
        bits_is = ap (4 * bits +◌) (under b bit-few en) ∙ sym (bits-next b (sym eb));
        small = omega (arith, s.small, pow-next b (sym eb), bit_times b n bit-few few);
      }
    where
      bit-few : b ≤ 1
      bit-few = omega arith

      under : (b : ℕ) → b ≤ 1 → (b ≡ 1 → n ≡ node_of page at) → b * n ≡ if_on b (node_of page at)
      under zero h f = zero-mul n
      under (suc zero) h f = one-mul n ∙ f refl
      under (suc (suc b)) h f = absurd (omega arith)

  pub reading_place : at ≤ 240
  reading_place =
      let k : w - left + left ≡ w = omega (arith, s.to) in
      omega (arith, s.at_is, place_rises set w p (w - left) left, ap (place_after set w p) k, s.room)

  pub reading_room : set / 2 ^ (left - 1) % 2 ≡ 1 → at < 240
  reading_room e =
      let k : w - (left - 1) + (left - 1) ≡ w = omega (arith, s.to) in
      omega (arith, place-next 1 e, place_rises set w p (w - (left - 1)) (left - 1), ap (place_after set w p) k, s.room)

pub reading_end : {page : List ℕ} {set w p bits at left : ℕ} → Reading page set w p bits at left → left ≤ 0
    → (bits ≡ bits_after page set w p w) × (bits < 65536) × (at ≡ place_after set w p w)
reading_end {page} {set} {w} {p} {bits} {at} {left} s h =
    let e : w - left ≡ w = omega arith in (
      s.bits_is ∙ ap (bits_after page set w p) e,
      omega (arith, s.small, ap (4 ^◌) e, pow-le-pow_right {n = 4} (omega arith) {i = w} {j = 8} s.wide),
      s.at_is ∙ ap (place_after set w p) e,
    )
