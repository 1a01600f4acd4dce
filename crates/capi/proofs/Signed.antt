-- Numbers as C gets them: 0 or more, or negated.
-- Assumes nothing.
use mathlib.Core.Path.{◌≡◌, ap, ◌∙◌}
use Prim.Native.Nat.{ℕ, zero, suc, ◌≤◌, ◌<◌}
use native.Mathlib.Omega.{arith}
use lib.IntN.{ℤ, pos, neg_ℤ, ◌-ℤ◌, +ℤ_idl}
use lib.Signed.{mag}
use mir.Syntax.{w64}
use mir.Val.{SFits, to_z, of_z}
use mir.Facts.{to_z_pos, to_z-of_z}
use borrow.Author.Rules.{sfits_of}

mag_neg : (n : ℕ) → mag (neg_ℤ (pos n)) ≤ n
mag_neg zero = omega arith
mag_neg (suc n) = omega arith

-- a small number negated
minus : (n : ℕ) → n < 256 → pos 0 -ℤ to_z w64 n ≡ neg_ℤ (pos n)
minus n h = ap (pos 0 -ℤ◌) (to_z_pos w64 {n = n} (omega arith)) ∙ +ℤ_idl (neg_ℤ (pos n))

pub neg_fits : (n : ℕ) → n < 256 → SFits w64 (pos 0 -ℤ to_z w64 n)
neg_fits n h = rw (minus n h) (sfits_of (omega (arith, mag_neg n)))

pub neg_is : (n : ℕ) → n < 256 → to_z w64 (of_z w64 (pos 0 -ℤ to_z w64 n)) ≡ neg_ℤ (pos n)
neg_is n h = to_z-of_z (neg_fits n h) ∙ minus n h

-- and one that is not
pub pos_fits : (n : ℕ) → n < 9223372036854775808 → SFits w64 (pos n)
pos_fits n h = sfits_of (omega arith)

pub pos-is : (n : ℕ) → n < 9223372036854775808 → to_z w64 n ≡ pos n
pos-is n h = to_z_pos w64 {n = n} h

-- what a callee returned, handed on
pub back_neg : (z : ℤ) (n : ℕ) → n < 256 → z ≡ neg_ℤ (pos n) → to_z w64 (of_z w64 z) ≡ neg_ℤ (pos n)
back_neg z n h e = to_z-of_z {w = w64} {z = z} (rw e (sfits_of (omega (arith, mag_neg n)))) ∙ e

pub back_pos : (z : ℤ) (n : ℕ) → n < 9223372036854775808 → z ≡ pos n → to_z w64 (of_z w64 z) ≡ pos n
back_pos z n h e = to_z-of_z {w = w64} {z = z} (rw e (pos_fits n h)) ∙ e
