-- Which endings of a subtrie have a holder's bits: below the others there is none of the holder's keys.
-- Assumes nothing.
use mathlib.Core.List.{List, [], ◌++◌, append-nil}
use mathlib.Core.Path.{◌≡◌, refl, sym, ap, ap₂, ◌∙◌}
use Prim.Native.Nat.{ℕ, ◌+◌, ◌-◌, ◌*◌, ◌/◌, ◌%◌, ◌^◌, ◌≤◌, ◌<◌}
use native.Mathlib.Nat.{add-mul, div-lt_iff_lt-mul, le-div_iff_mul-le}
use native.Mathlib.Omega.{arith}
use borrow.Author.Tests.{ne_eqb}
use lib.Pow.{pow-add, shr-shr}
use Rattle.format.specs.Key.{holder_of}
use Rattle.format.specs.Scan.{is_holders}
use Rattle.format.proofs.Cells.{holder_cell, prefix_cell}
use Rattle.walk.specs.Walk.{Walking}
use Rattle.walk.proofs.Between.{members_outside}
use Rattle.walk.proofs.Blocks.{holder_high, holder_low, part_holder}
use Rattle.walk.proofs.Chains.{under_split}
use Rattle.walk.proofs.Endings.{power_positive}
use Rattle.walk.proofs.Steps.{in_block, prefix_fits}
use Rattle.walk.proofs.Walked.{under}
use Rattle.holder.specs.Below.{first_ending, holder_bits}

-- a key's holder starts with the holder's bits of the key's prefix
holder_prefix : (h k : ℕ) → h ≤ 16 → k / 2 ^ (2 * h) < 2 ^ (32 - 2 * h) → holder_of k / 2 ^ h ≡ holder_of (k / 2 ^ (2 * h))
holder_prefix h k le short =
    let x : ℕ = k / 2 ^ (2 * h) in
    let p = prefix_cell (2 * h) x k refl in
    let c = holder_cell (2 * h) x k p.0 p.1 in
    in_block h (holder_of x) (holder_of k) (omega (arith, c.low, holder_low h x le short)) (omega (arith, c.high, holder_high h x le short, power_positive h, add-mul (holder_of x) 1 (2 ^ h)))

-- ---- the holder's two bits of an ending

-- the first and the third bit of four
abbrev ending_bits : ℕ → ℕ
ending_bits v = 2 * (v / 8) + v / 2 % 2

-- an ending is made of them, and of the slot's
ending_is : (n v : ℕ) → v < 16 → ending_bits v ≡ n → v ≡ 8 * (n / 2) + 2 * (n % 2) + 4 * (v / 2 / 2 % 2) + v % 2
ending_is n v h e =
    let high : n / 2 ≡ v / 8 = omega arith in
    let low : n % 2 ≡ v / 2 % 2 = omega arith in
    let eight : v / 2 / 2 / 2 ≡ v / 8 = omega arith in
    omega arith

-- the bits of an ending that is made of them, and of the slot's
bits_are : (n t u : ℕ) → n < 4 → t < 2 → u < 2 → ending_bits (8 * (n / 2) + 2 * (n % 2) + 4 * t + u) ≡ n
bits_are n t u h k l = omega arith

module _ (holder number : ℕ) where
  -- they are two
  bits-few : holder_bits holder number < 4
  unfolding holder_bits
  bits-few = omega arith

  -- there are endings after the first
  pub first_ending_few : first_ending holder number ≤ 10
  unfolding first_ending
  first_ending_few = omega (arith, bits-few)

  -- the four endings that have the holder's bits
  pub ending_has_bits : (t u v : ℕ) → t < 2 → u < 2 → v ≡ first_ending holder number + 4 * t + u → ending_bits v ≡ holder_bits holder number
  unfolding first_ending
  ending_has_bits t u v h k e = ap ending_bits e ∙ bits_are (holder_bits holder number) t u bits-few h k

  -- no other has
  other-bits : (v : ℕ) → v < 16 → ending_bits v ≡ holder_bits holder number → v ≡ first_ending holder number + 4 * (v / 2 / 2 % 2) + v % 2
  unfolding first_ending
  other-bits v h e = ending_is (holder_bits holder number) v h e

-- ---- the endings of a prefix that starts with the holder's bits

module _ (holder : ℕ) {img : List ℕ} {b set first x : ℕ} (s : Walking img b set first x 0) (bits : holder_of x ≡ holder / 2 ^ (18 - 2 * b)) where
  -- the holder's bits, with two more
  two-more : holder / 2 ^ (16 - 2 * b) ≡ 4 * holder_of x + holder_bits holder b
  unfolding holder_bits
  two-more =
      let e : 16 - 2 * b + 2 ≡ 18 - 2 * b = omega (arith, s.to) in
      omega (arith, shr-shr holder (16 - 2 * b) 2, ap (λ (n : ℕ). holder / 2 ^ n) e)

  -- with an ending that has the holder's bits, the prefix still starts with them
  pub has_bits_next : (v : ℕ) → v < 16 → ending_bits v ≡ holder_bits holder b → holder_of (16 * x + v) ≡ holder / 2 ^ (18 - 2 * (b + 1))
  has_bits_next v h e =
      let d : 18 - 2 * (b + 1) ≡ 16 - 2 * b = omega arith in
      omega (arith, part_holder x (prefix_fits s) v h, two-more, ap (λ (n : ℕ). holder / 2 ^ n) d)

  -- a key of the holder is below an ending that has the holder's bits
  key-ending : (k y : ℕ) → holder_of k ≡ holder → k / 2 ^ (36 - 4 * (b + 1)) ≡ y → 16 * x ≤ y → y < 16 * x + 16 → ending_bits (y - 16 * x) ≡ holder_bits holder b
  key-ending k y e p lo hi =
      let w : 36 - 4 * (b + 1) ≡ 2 * (16 - 2 * b) = omega (arith, s.to) in
      let d : 32 - 2 * (16 - 2 * b) ≡ 4 * (b - 1) + 4 = omega (arith, s.from, s.to) in
      let q : k / 2 ^ (2 * (16 - 2 * b)) ≡ y = ap (λ (n : ℕ). k / 2 ^ n) (sym w) ∙ p in
      let short : y < 2 ^ (32 - 2 * (16 - 2 * b)) = omega (arith, s.short, ap (2 ^◌) d ∙ pow-add 2 (4 * (b - 1)) 4) in
      let h = holder_prefix (16 - 2 * b) k (omega arith) (rw q short) in
      let t : 16 * x + (y - 16 * x) ≡ y = omega arith in
      omega (arith, h, ap holder_of q, ap (◌/ 2 ^ (16 - 2 * b)) e, two-more, ap holder_of t, part_holder x (prefix_fits s) (y - 16 * x) (omega arith))

  -- below endings that have other bits there is none
  none_below : (v u : ℕ) → u ≤ 16 → ((w : ℕ) → v ≤ w → w < u → ending_bits w ≡ holder_bits holder b → ⊥) → under img (is_holders holder) b x v u ≡ []
  unfolding is_holders
  none_below v u to other =
      let P : ℕ = 2 ^ (36 - 4 * (b + 1)) in
      members_outside img (is_holders holder) ((16 * x + v) * P) ((16 * x + u) * P)
      (λ k lo hi. ne_eqb (holder_of k) holder
      (λ e. let from : 16 * x + v ≤ k / P = (le-div_iff_mul-le (power_positive (36 - 4 * (b + 1)))).1 lo in
      let below : k / P < 16 * x + u = (div-lt_iff_lt-mul (power_positive (36 - 4 * (b + 1)))).1 hi in
      other (k / P - 16 * x) (omega arith) (omega arith) (key-ending k (k / P) e refl (omega arith) (omega arith))))

  -- so the holder's keys are below two pairs of endings
  pub two_pairs : under img (is_holders holder) b x 0 16 ≡ under img (is_holders holder) b x (first_ending holder b) (first_ending holder b + 2) ++ under img (is_holders holder) b x (first_ending holder b + 4) (first_ending holder b + 4 + 2)
  two_pairs =
      let e : ℕ = first_ending holder b in
      let few = first_ending_few holder b in
      let split = under_split img (is_holders holder) b x s.ready in
      let other = other-bits holder b in
      split 0 e 16 (omega arith) (omega arith)
      ∙ ap (◌++ under img (is_holders holder) b x e 16) (none_below 0 e (omega arith) (λ w lo hi q. omega (arith, other w (omega arith) q)))
      ∙ split e (e + 2) 16 (omega arith) (omega arith)
      ∙ ap (under img (is_holders holder) b x e (e + 2) ++◌)
      (split (e + 2) (e + 4) 16 (omega arith) (omega arith)
      ∙ ap₂ ◌++◌ (none_below (e + 2) (e + 4) (omega arith) (λ w lo hi q. omega (arith, other w (omega arith) q)))
      (split (e + 4) (e + 4 + 2) 16 (omega arith) (omega arith)
      ∙ ap (under img (is_holders holder) b x (e + 4) (e + 4 + 2) ++◌) (none_below (e + 4 + 2) 16 (omega arith) (λ w lo hi q. omega (arith, other w (omega arith) q)))
      ∙ append-nil _))
