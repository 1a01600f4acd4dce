-- The search for an on bit in a word, by halves.
-- Assumes nothing.
use mathlib.Core.Path.{◌≡◌, refl, sym, ap, ap₂, ◌∙◌}
use Prim.Native.Nat.{ℕ, suc, ◌+◌, ◌*◌, ◌/◌, ◌%◌, ◌^◌, ◌≤◌, ◌<◌}
use native.Mathlib.Nat.{add_assoc, add-mul, mul-add, suc-mul}
use native.Mathlib.Decide.{dec_lt}
use native.Mathlib.Omega.{arith}
use lib.Bits.{bit_and}
use lib.Count.{ones}
use lib.Pow.{shr-shr}
use Rattle.climb.specs.Select.{Halved, Selected}
use Rattle.climb.proofs.Sums.{bits_are, counts_of, lower_of, sums_of, twice, twice_is, ones_halves, ones-rest, field_is, bit-ones}

-- on bit n of a word is on bit `left` of its piece f of k pieces of m bits, which starts at place `low`
pub record Chosen (w n k m low left : ℕ) : Type 0 where
  pub f : ℕ
  pub in_word : f < k
  pub low_is : low ≡ f * m
  pub fits : low + m ≤ 64
  pub above : ones (w / 2 ^ (low + m)) + left ≡ n
  pub here : left < ones (w / 2 ^ low % 2 ^ m)

-- the whole word
pub chosen_start : (w n : ℕ) → w < 18446744073709551616 → n < ones w → Chosen w n 1 64 0 n
chosen_start w n small h =
    let none : w / 18446744073709551616 ≡ 0 = omega arith in
    let all : w / 1 % 18446744073709551616 ≡ w = omega arith in
    let zeros : ones (w / 18446744073709551616) ≡ 0 = ap ones none ∙ bit-ones 0 (omega arith) in
    record {
      f = 0;
      in_word = omega arith;
      low_is = refl;
      fits = omega arith;
      above = omega arith;
      here = omega (arith, ap ones all);
    }

-- one half of the piece
module _ {w n k low left : ℕ} (m : ℕ) (s : Chosen w n k (m + m) low left) {counts size : ℕ} (ec : counts ≡ counts_of (twice k) m w) (es : size ≡ 2 ^ m) where
  -- the upper half is the odd one of two pieces
  upper-place : low + m ≡ suc (s.f + s.f) * m
  upper-place = omega (arith, s.low_is, mul-add s.f m m, add-mul s.f s.f m, suc-mul (s.f + s.f) m)

  upper_is : counts / 2 ^ (low + m) % size ≡ ones (w / 2 ^ (low + m) % 2 ^ m)
  upper_is =
      ap₂ (λ (c d : ℕ). c / 2 ^ (low + m) % d) ec es
      ∙ ap (λ (x : ℕ). counts_of (twice k) m w / 2 ^ x % 2 ^ m) upper-place
      ∙ field_is (twice k) m w (suc (s.f + s.f)) (omega (arith, s.in_word, twice_is k))
      ∙ ap (λ (x : ℕ). ones (w / 2 ^ x % 2 ^ m)) (sym upper-place)

  -- the on bits of the piece, and those above its lower half
  both : ones (w / 2 ^ low % 2 ^ (m + m)) ≡ ones (w / 2 ^ (low + m) % 2 ^ m) + ones (w / 2 ^ low % 2 ^ m)
  both = ones_halves m (w / 2 ^ low) ∙ ap (λ (x : ℕ). ones (x % 2 ^ m) + ones (w / 2 ^ low % 2 ^ m)) (shr-shr w low m)

  beyond : ones (w / 2 ^ (low + m)) ≡ ones (w / 2 ^ (low + (m + m))) + ones (w / 2 ^ (low + m) % 2 ^ m)
  beyond =
      ones-rest m (w / 2 ^ (low + m))
      ∙ ap (λ (x : ℕ). ones x + ones (w / 2 ^ (low + m) % 2 ^ m)) (shr-shr w (low + m) m ∙ ap (λ (x : ℕ). w / 2 ^ x) (add_assoc low m m))

  pub chosen_half : {low' left' : ℕ} → Halved (counts / 2 ^ (low + m) % size) m low left low' left' → Chosen w n (twice k) m low' left'
  chosen_half h =
      elim (dec_lt left (ones (w / 2 ^ (low + m) % 2 ^ m))) [
        | yes l ↦ let e = h.in_upper (omega (arith, upper_is)) in
            rw (e.0, e.1)
            (record {
              f = suc (s.f + s.f);
              in_word = omega (arith, s.in_word, twice_is k);
              low_is = upper-place;
              fits = omega (arith, s.fits);
              above = ap (λ (x : ℕ). ones (w / 2 ^ x) + left) (add_assoc low m m) ∙ s.above;
              here = l;
            })
        | no l ↦ let e = h.in_lower (omega (arith, upper_is)) in
            rw (e.0, e.1, upper_is)
            (record {
              f = s.f + s.f;
              in_word = omega (arith, s.in_word, twice_is k);
              low_is = omega (arith, s.low_is, mul-add s.f m m, add-mul s.f s.f m);
              fits = omega (arith, s.fits);
              above = omega (arith, beyond, s.above);
              here = omega (arith, both, s.here);
            })
      ]

-- a piece of one bit
pub chosen_end : {w n k low left : ℕ} → Chosen w n k 1 low left → Selected w n low
chosen_end {w} {n} {k} {low} {left} s =
    let e : ones (w / 2 ^ low % 2) ≡ w / 2 ^ low % 2 = bit-ones (w / 2 ^ low % 2) (omega arith) in
    record { within = omega (arith, s.fits); on = omega (arith, s.here); above = omega (arith, s.here, s.above) }

-- ---- the counts over a word, and its halves down to one bit

-- the counts over pieces of 2 to 32 bits
pub record Counted (w twos fours eights sixteens halves : ℕ) : Type 0 where
  pub two : twos ≡ counts_of 32 2 w
  pub four : fours ≡ counts_of 16 4 w
  pub eight : eights ≡ counts_of 8 8 w
  pub sixteen : sixteens ≡ counts_of 4 16 w
  pub half : halves ≡ counts_of 2 32 w

pub counted : {w twos fours eights sixteens halves : ℕ} → w < 2 ^ 64
    → twos ≡ bit_and w 0x5555_5555_5555_5555 + bit_and (w / 2 ^ 1) 0x5555_5555_5555_5555
    → fours ≡ bit_and twos 0x3333_3333_3333_3333 + bit_and (twos / 2 ^ 2) 0x3333_3333_3333_3333
    → eights ≡ bit_and fours 0x0f0f_0f0f_0f0f_0f0f + bit_and (fours / 2 ^ 4) 0x0f0f_0f0f_0f0f_0f0f
    → sixteens ≡ bit_and eights 0x00ff_00ff_00ff_00ff + bit_and (eights / 2 ^ 8) 0x00ff_00ff_00ff_00ff
    → halves ≡ bit_and sixteens 0x0000_ffff_0000_ffff + bit_and (sixteens / 2 ^ 16) 0x0000_ffff_0000_ffff
    → Counted w twos fours eights sixteens halves
unfolding twice lower_of
counted {w} small e₁ e₂ e₃ e₄ e₅ =
    let two = sums_of 32 1 w (sym (bits_are 64 w small)) refl e₁ in
    let four = sums_of 16 2 w two refl e₂ in
    let eight = sums_of 8 4 w four refl e₃ in
    let sixteen = sums_of 4 8 w eight refl e₄ in
    record { two = two; four = four; eight = eight; sixteen = sixteen; half = sums_of 2 16 w sixteen refl e₅ }

pub half_32 : {w n twos fours eights sixteens halves low left : ℕ} → Counted w twos fours eights sixteens halves → w < 2 ^ 64 → n < ones w
    → Halved (halves / 2 ^ (0 + 32) % 4294967296) 32 0 n low left → Chosen w n 2 32 low left
unfolding twice
half_32 {w} {n} k small h = chosen_half 32 (chosen_start w n small h) k.half refl

module _ {w n twos fours eights sixteens halves low left low' left' : ℕ} (k : Counted w twos fours eights sixteens halves) where
  pub half_16 : Chosen w n 2 32 low left → Halved (sixteens / 2 ^ (low + 16) % 65536) 16 low left low' left' → Chosen w n 4 16 low' left'
  unfolding twice
  half_16 s = chosen_half 16 s k.sixteen refl

  pub half_8 : Chosen w n 4 16 low left → Halved (eights / 2 ^ (low + 8) % 256) 8 low left low' left' → Chosen w n 8 8 low' left'
  unfolding twice
  half_8 s = chosen_half 8 s k.eight refl

  pub half_4 : Chosen w n 8 8 low left → Halved (fours / 2 ^ (low + 4) % 16) 4 low left low' left' → Chosen w n 16 4 low' left'
  unfolding twice
  half_4 s = chosen_half 4 s k.four refl

  pub half_2 : Chosen w n 16 4 low left → Halved (twos / 2 ^ (low + 2) % 4) 2 low left low' left' → Chosen w n 32 2 low' left'
  unfolding twice
  half_2 s = chosen_half 2 s k.two refl

pub half_1 : {w n low left low' left' : ℕ} → w < 2 ^ 64 → Chosen w n 32 2 low left → Halved (w / 2 ^ (low + 1) % 2) 1 low left low' left' → Selected w n low'
unfolding twice
half_1 {w} small s h = chosen_end (chosen_half 1 s (sym (bits_are 64 w small)) refl h)
