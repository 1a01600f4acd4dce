-- Sets of bits: the bit of a number, a set's first bits, and a set read level by level.
-- Assumes nothing.
use mathlib.Core.Bool.{Bool, true, false}
use mathlib.Core.Path.{◌≡◌, sym, ap, ◌∙◌}
use Prim.Native.Nat.{ℕ, zero, suc, ◌+◌, ◌-◌, ◌*◌, ◌/◌, ◌%◌, ◌^◌, ◌≤◌, ◌<◌}
use native.Mathlib.Nat.{add-zero, div-one, div-div-eq-div-mul, pow-succ'}
use native.Mathlib.Decide.{dec_lt}
use native.Mathlib.Omega.{arith}
use Rattle.subtries.specs.Subtrie.{as_bit, set_of, set_bit}

pub bit_small : (b : Bool) → as_bit b ≤ 1
unfolding as_bit
bit_small true = omega arith
bit_small false = omega arith

pub set_small : (f : ℕ → Bool) (n : ℕ) → set_of f n < 2 ^ n
unfolding set_of
set_small f zero = omega arith
set_small f (suc n) = omega (arith, set_small f n, bit_small (f n), pow-succ' 2 n)

-- the first m of a set's bits
pub set_first : (f : ℕ → Bool) (m k : ℕ) → set_of f (m + k) / 2 ^ k ≡ set_of f m
unfolding set_of
set_first f m zero = ap (λ (n : ℕ). set_of f n / 1) (add-zero m) ∙ div-one (set_of f m)
set_first f m (suc k) =
    let e : m + suc k ≡ suc (m + k) = omega arith in
    let half : (2 * set_of f (m + k) + as_bit (f (m + k))) / 2 ≡ set_of f (m + k) = omega (arith, bit_small (f (m + k))) in
    ap (λ (n : ℕ). set_of f n / 2 ^ suc k) e
    ∙ ap (λ (n : ℕ). set_of f (suc (m + k)) / n) (pow-succ' 2 k)
    ∙ sym (div-div-eq-div-mul (set_of f (suc (m + k))) 2 (2 ^ k))
    ∙ ap (◌/ 2 ^ k) half
    ∙ set_first f m k

-- the bits of a set before its last are those of its half, and the last tells whether it is odd
pub bit_up : (set w v : ℕ) → v < w → set_bit set (suc w) v ≡ set_bit (set / 2) w v
bit_up set w v h =
    let e : suc w - 1 - v ≡ suc (w - 1 - v) = omega arith in
    ap (λ (n : ℕ). set / 2 ^ n % 2) e
    ∙ ap (λ (n : ℕ). set / n % 2) (pow-succ' 2 (w - 1 - v))
    ∙ ap (◌% 2) (sym (div-div-eq-div-mul set 2 (2 ^ (w - 1 - v))))

pub bit_last : (set w : ℕ) → set_bit set (suc w) w ≡ set % 2
bit_last set w = let z : suc w - 1 - w ≡ 0 = omega arith in ap (λ (n : ℕ). set / 2 ^ n % 2) z ∙ ap (◌% 2) (div-one set)

-- bit v of the set tells whether v passes
pub set-bit : (f : ℕ → Bool) (w v : ℕ) → v < w → set_bit (set_of f w) w v ≡ as_bit (f v)
unfolding set_of
set-bit f zero v h = absurd (omega arith)
set-bit f (suc w) v h =
    elim (dec_lt v w) [
      | yes k ↦ let q : (2 * set_of f w + as_bit (f w)) / 2 ≡ set_of f w = omega (arith, bit_small (f w)) in
          bit_up (2 * set_of f w + as_bit (f w)) w v k ∙ ap (λ (n : ℕ). set_bit n w v) q ∙ set-bit f w v k
      | no k ↦ let e : v ≡ w = omega arith in
          let m : (2 * set_of f w + as_bit (f w)) % 2 ≡ as_bit (f w) = omega (arith, bit_small (f w)) in
          ap (set_bit (2 * set_of f w + as_bit (f w)) (suc w)) e ∙ bit_last (2 * set_of f w + as_bit (f w)) w ∙ m ∙ ap (λ (n : ℕ). as_bit (f n)) (sym e)
    ]
