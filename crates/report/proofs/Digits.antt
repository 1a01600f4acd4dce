-- Decimal digits: one more digit, their number, and runs of bytes stored one after the other.
-- Assumes nothing.
use mathlib.Core.Path.{◌≡◌, refl, sym, ap, ap₂, ◌∙◌}
use mathlib.Core.List.{List, [], ◌∷◌, ◌++◌}
use Prim.Native.Nat.{ℕ, zero, suc, ◌+◌, ◌-◌, ◌/◌, ◌%◌, ◌^◌, ◌≤◌, ◌<◌}
use native.Mathlib.Nat.{add-zero, pow-succ'}
use native.Mathlib.Omega.{arith}
use native.Mathlib.Decide.{dec_lt}
use borrow.Author.Tests.{lt-ltb, le-ltb}
use lib.ListN.{length, set, length-append}
use lib.Seq.{sets, length-sets}
use Rattle.format.specs.Text.{digits}

-- a number below 10, and one that is not
pub one_digit : (d n : ℕ) → n < 10 → digits d n ≡ (48 + n) ∷ []
unfolding digits
one_digit zero n h = refl
one_digit (suc d) n h = rw (lt-ltb n 10 h)

pub more_digits : (d n : ℕ) → 10 ≤ n → n < 10 ^ (d + 1) → digits d n ≡ digits (d - 1) (n / 10) ++ (48 + n % 10) ∷ []
unfolding digits
more_digits zero n h k = absurd (omega arith)
more_digits (suc d) n h k = let e : suc d - 1 ≡ d = omega arith in rw (le-ltb n 10 h, e)

-- the room that a recursive call needs
pub fewer : (d n : ℕ) → 10 ≤ n → n < 10 ^ (d + 1) → (1 ≤ d) × (n / 10 < 10 ^ (d - 1 + 1))
fewer zero n h k = absurd (omega arith)
fewer (suc d) n h k =
    let e : suc d - 1 + 1 ≡ d + 1 = omega arith in
    let f : suc d + 1 ≡ suc (d + 1) = omega arith in
    (omega arith, rw e (omega (arith, ap (10 ^◌) f, pow-succ' 10 (d + 1))))

pub digits-length : (d n : ℕ) → (1 ≤ length (digits d n)) × (length (digits d n) ≤ d + 1)
unfolding digits
digits-length zero n = (omega arith, omega arith)
digits-length (suc d) n =
    elim (dec_lt n 10) [
      | yes h ↦ rw (lt-ltb n 10 h) (omega arith, omega arith)
      | no h ↦ let s : length (digits d (n / 10) ++ (48 + n % 10) ∷ []) ≡ length (digits d (n / 10)) + 1 = length-append (digits d (n / 10)) ((48 + n % 10) ∷ []) in
          let ih = digits-length d (n / 10) in
          rw (le-ltb n 10 (omega arith)) (omega arith, omega arith)
    ]

-- one run after the other
pub sets-append : (l : List ℕ) (i : ℕ) (a b : List ℕ) → sets l i (a ++ b) ≡ sets (sets l i a) (i + length a) b
sets-append l i [] b = ap (λ (k : ℕ). sets l k b) (sym (add-zero i))
sets-append l i (x ∷ a) b = sets-append (set l i x) (suc i) a b ∙ ap (λ (k : ℕ). sets (sets (set l i x) (suc i) a) k b) (omega arith)

-- ---- a number written digit by digit

pub put_one : (l : List ℕ) (at d n b : ℕ) → n < 10 → b ≡ 48 + n → (set l at b ≡ sets l at (digits d n)) × (at + 1 ≡ at + length (digits d n))
put_one l at d n b h e = rw (one_digit d n h) (ap (set l at) e, omega arith)

module _ (l m : List ℕ) (at d n r : ℕ) (h : 10 ≤ n) (k : n < 10 ^ (d + 1)) (e : m ≡ sets l at (digits (d - 1) (n / 10))) (f : r ≡ at + length (digits (d - 1) (n / 10))) where
  pub put_room : at + d < length l → r < length m
  put_room room = omega (arith, ap length e, length-sets l at (digits (d - 1) (n / 10)), digits-length (d - 1) (n / 10), fewer d n h k)

  pub put_more : (b : ℕ) → b ≡ 48 + n % 10 → (set m r b ≡ sets l at (digits d n)) × (r + 1 ≡ at + length (digits d n))
  put_more b g =
      let whole = more_digits d n h k in (
        ap₂ (λ (x : List ℕ) (i : ℕ). set x i b) e f
            ∙ ap (set (sets l at (digits (d - 1) (n / 10))) (at + length (digits (d - 1) (n / 10)))) g
            ∙ sym (sets-append l at (digits (d - 1) (n / 10)) ((48 + n % 10) ∷ []))
            ∙ ap (sets l at) (sym whole),
        omega (arith, ap length whole, length-append (digits (d - 1) (n / 10)) ((48 + n % 10) ∷ [])),
      )
