-- The holders and slots of a block: of its parts, and of its first and its last key.
-- Assumes nothing.
use mathlib.Core.Path.{◌≡◌, refl, sym, ap, ap₂, ◌∙◌}
use Prim.Native.Nat.{ℕ, zero, suc, ◌+◌, ◌-◌, ◌*◌, ◌/◌, ◌%◌, ◌^◌, ◌≤◌, ◌<◌}
use native.Mathlib.Nat.{add-mul, mul-le-mul_right, pow-suc, zero-add}
use native.Mathlib.Numerals.{add-one}
use native.Mathlib.Omega.{arith}
use lib.Pow.{pow-add}
use Rattle.format.specs.Key.{gather, holder_of, slot_of}
use Rattle.format.specs.Cell.{lowest, highest}
use Rattle.format.proofs.Keys.{gather_small}
use Rattle.walk.proofs.Endings.{power_positive}

-- a number of d pairs of bits has nothing past them
gather-nothing : (k n : ℕ) → n ≡ 0 → gather k n ≡ 0
unfolding gather
gather-nothing zero n e = refl
gather-nothing (suc k) n e =
    let q : n / 4 ≡ 0 = omega arith in
    omega (arith, gather-nothing k (n / 4) q)

pub gather_short : (d k n : ℕ) → n < 2 ^ (2 * d) → gather (d + k) n ≡ gather d n
unfolding gather
gather_short zero k n h = ap (λ (m : ℕ). gather m n) (zero-add k) ∙ gather-nothing k n (omega arith)
gather_short (suc d) k n h =
    let e : 2 * suc d ≡ suc (suc (2 * d)) = omega arith in
    let p : 2 ^ (2 * suc d) ≡ 4 * 2 ^ (2 * d) = ap (2 ^◌) e ∙ pow-suc 2 (suc (2 * d)) ∙ ap (◌* 2) (pow-suc 2 (2 * d)) ∙ omega arith in
    let s : suc d + k ≡ suc (d + k) = omega arith in
    ap (λ (m : ℕ). gather m n) s ∙ ap (λ (m : ℕ). n % 2 + 2 * m) (gather_short d k (n / 4) (omega arith))

-- the two lowest bits, and the others
gather_two : (d n : ℕ) → gather (suc (suc d)) n ≡ n % 2 + 2 * (n / 4 % 2) + 4 * gather d (n / 4 / 4)
unfolding gather
gather_two d n = omega arith

sum : (a a' b b' g g' : ℕ) → a ≡ a' → b ≡ b' → g ≡ g' → a + 2 * b + 4 * g ≡ 4 * g' + 2 * b' + a'
sum a a' b b' g g' p q r = omega arith

even : (m n r : ℕ) → n ≡ 2 * m → (n + r) % 2 ≡ r % 2
even m n r e = omega arith

module _ (x : ℕ) (h : x < 268435456) (e : ℕ) (k : e < 16) where
  pub part_slot : slot_of (16 * x + e) ≡ 4 * slot_of x + 2 * (e / 4 % 2) + e % 2
  unfolding slot_of
  part_slot =
      let q : (16 * x + e) / 4 / 4 ≡ x = omega arith in
      let r : (16 * x + e) % 2 ≡ e % 2 = omega arith in
      let u : (16 * x + e) / 4 ≡ 4 * x + e / 4 = omega arith in
      let t : (16 * x + e) / 4 % 2 ≡ e / 4 % 2 = ap (◌% 2) u ∙ even (2 * x) (4 * x) (e / 4) (omega arith) in
      gather_two 14 (16 * x + e) ∙ sum ((16 * x + e) % 2) (e % 2) ((16 * x + e) / 4 % 2) (e / 4 % 2) (gather 14 ((16 * x + e) / 4 / 4)) (gather 16 x) r t (ap (gather 14) q ∙ sym (gather_short 14 2 x h))

  pub part_holder : holder_of (16 * x + e) ≡ 4 * holder_of x + 2 * (e / 8) + e / 2 % 2
  unfolding holder_of
  part_holder =
      let n : (16 * x + e) / 2 ≡ 8 * x + e / 2 = omega arith in
      let q : (8 * x + e / 2) / 4 / 4 ≡ x / 2 = omega arith in
      let r : (8 * x + e / 2) % 2 ≡ e / 2 % 2 = omega arith in
      let u : (8 * x + e / 2) / 4 ≡ 2 * x + e / 8 = omega arith in
      let v : e / 8 % 2 ≡ e / 8 = omega arith in
      let t : (8 * x + e / 2) / 4 % 2 ≡ e / 8 = ap (◌% 2) u ∙ even x (2 * x) (e / 8) (omega arith) ∙ v in
      ap (gather 16) n ∙ gather_two 14 (8 * x + e / 2) ∙ sum ((8 * x + e / 2) % 2) (e / 2 % 2) ((8 * x + e / 2) / 4 % 2) (e / 8) (gather 14 ((8 * x + e / 2) / 4 / 4)) (gather 16 (x / 2)) r t (ap (gather 14) q ∙ sym (gather_short 14 2 (x / 2) (omega arith)))

-- ---- the first and the last key of a block

power_twice : (h : ℕ) → 2 ^ (2 * suc h) ≡ 4 * 2 ^ (2 * h)
power_twice h =
    let e : 2 * suc h ≡ suc (suc (2 * h)) = omega arith in
    ap (2 ^◌) e ∙ pow-suc 2 (suc (2 * h)) ∙ ap (◌* 2) (pow-suc 2 (2 * h)) ∙ omega arith

-- one more pair of bits: n is 4 m + r, of which the even places are looked at
gather-step : (d n m r : ℕ) → n / 4 ≡ m → n % 2 ≡ r → gather (suc d) n ≡ r + 2 * gather d m
unfolding gather
gather-step d n m r e f = omega (arith, ap (gather d) e)

-- a pair of bits more, off or on, doubles what was gathered
double_low : (g p q : ℕ) → q ≡ p * 2 → 0 + 2 * (g * p) ≡ g * q
double_low g p q e = rw e (omega arith)

double_high : (g p q : ℕ) → q ≡ p * 2 → 1 ≤ p → 1 + 2 * (g * p + (p - 1)) ≡ g * q + (q - 1)
double_high g p q e k = rw e (omega arith)

module _ (x : ℕ) where
  lows : (h d : ℕ) → gather (h + d) (x * 2 ^ (2 * h)) ≡ gather d x * 2 ^ h
  lows zero d =
      let e : x * 2 ^ (2 * 0) ≡ x = omega arith in
      ap₂ gather (zero-add d) e ∙ omega arith
  lows (suc h) d =
      let s : suc h + d ≡ suc (h + d) = omega arith in
      let n : ℕ = x * 2 ^ (2 * suc h) in
      let e : n ≡ 4 * (x * 2 ^ (2 * h)) = ap (x *◌) (power_twice h) ∙ omega arith in
      ap (λ (m : ℕ). gather m n) s ∙ gather-step (h + d) n (x * 2 ^ (2 * h)) 0 (omega arith) (omega arith) ∙ ap (λ (m : ℕ). 0 + 2 * m) (lows h d) ∙ double_low (gather d x) (2 ^ h) (2 ^ suc h) (pow-suc 2 h)

  highs : (h d : ℕ) → gather (h + d) (x * 2 ^ (2 * h) + (2 ^ (2 * h) - 1)) ≡ gather d x * 2 ^ h + (2 ^ h - 1)
  highs zero d =
      let e : x * 2 ^ (2 * 0) + (2 ^ (2 * 0) - 1) ≡ x = omega arith in
      ap₂ gather (zero-add d) e ∙ omega arith
  highs (suc h) d =
      let s : suc h + d ≡ suc (h + d) = omega arith in
      let n : ℕ = x * 2 ^ (2 * suc h) + (2 ^ (2 * suc h) - 1) in
      let m : ℕ = x * 2 ^ (2 * h) + (2 ^ (2 * h) - 1) in
      let e : x * 2 ^ (2 * suc h) ≡ 4 * (x * 2 ^ (2 * h)) = ap (x *◌) (power_twice h) ∙ omega arith in
      let q : n ≡ 4 * m + 3 = omega (arith, power_twice h, power_positive (2 * h)) in
      ap (λ (k : ℕ). gather k n) s ∙ gather-step (h + d) n m 1 (omega arith) (omega arith) ∙ ap (λ (k : ℕ). 1 + 2 * k) (highs h d) ∙ double_high (gather d x) (2 ^ h) (2 ^ suc h) (pow-suc 2 h) (power_positive h)

  -- the same of every second bit from place 1 on
  lows-half : (h d : ℕ) → gather (h + d) (x * 2 ^ (2 * h) / 2) ≡ gather d (x / 2) * 2 ^ h
  lows-half zero d =
      let e : x * 2 ^ (2 * 0) / 2 ≡ x / 2 = omega arith in
      ap₂ gather (zero-add d) e ∙ omega arith
  lows-half (suc h) d =
      let s : suc h + d ≡ suc (h + d) = omega arith in
      let n : ℕ = x * 2 ^ (2 * suc h) in
      let e : n ≡ 4 * (x * 2 ^ (2 * h)) = ap (x *◌) (power_twice h) ∙ omega arith in
      ap (λ (m : ℕ). gather m (n / 2)) s ∙ gather-step (h + d) (n / 2) (x * 2 ^ (2 * h) / 2) 0 (omega arith) (omega arith) ∙ ap (λ (m : ℕ). 0 + 2 * m) (lows-half h d) ∙ double_low (gather d (x / 2)) (2 ^ h) (2 ^ suc h) (pow-suc 2 h)

  highs-half : (h d : ℕ) → gather (h + d) ((x * 2 ^ (2 * h) + (2 ^ (2 * h) - 1)) / 2) ≡ gather d (x / 2) * 2 ^ h + (2 ^ h - 1)
  highs-half zero d =
      let e : (x * 2 ^ (2 * 0) + (2 ^ (2 * 0) - 1)) / 2 ≡ x / 2 = omega arith in
      ap₂ gather (zero-add d) e ∙ omega arith
  highs-half (suc h) d =
      let s : suc h + d ≡ suc (h + d) = omega arith in
      let n : ℕ = x * 2 ^ (2 * suc h) + (2 ^ (2 * suc h) - 1) in
      let m : ℕ = x * 2 ^ (2 * h) + (2 ^ (2 * h) - 1) in
      let e : x * 2 ^ (2 * suc h) ≡ 4 * (x * 2 ^ (2 * h)) = ap (x *◌) (power_twice h) ∙ omega arith in
      let q : n ≡ 4 * m + 3 = omega (arith, power_twice h, power_positive (2 * h)) in
      ap (λ (k : ℕ). gather k (n / 2)) s ∙ gather-step (h + d) (n / 2) (m / 2) 1 (omega arith) (omega arith) ∙ ap (λ (k : ℕ). 1 + 2 * k) (highs-half h d) ∙ double_high (gather d (x / 2)) (2 ^ h) (2 ^ suc h) (pow-suc 2 h) (power_positive h)

module _ (h x : ℕ) (le : h ≤ 16) (short : x < 2 ^ (32 - 2 * h)) where
  all-pairs : h + (16 - h) ≡ 16
  all-pairs = omega arith

  short-pairs : (n : ℕ) → n ≤ x → gather 16 n ≡ gather (16 - h) n
  short-pairs n k =
      let e : 16 - h + h ≡ 16 = omega arith in
      let p : 2 * (16 - h) ≡ 32 - 2 * h = omega arith in
      ap (λ (m : ℕ). gather m n) (sym e) ∙ gather_short (16 - h) h n (omega (arith, ap (2 ^◌) p))

  pub slot_low : slot_of (lowest (2 * h) x) ≡ slot_of x * 2 ^ h
  unfolding slot_of
  slot_low = ap (λ (m : ℕ). gather m (x * 2 ^ (2 * h))) (sym all-pairs) ∙ lows x h (16 - h) ∙ ap (◌* 2 ^ h) (sym (short-pairs x (omega arith)))

  pub slot_high : slot_of (highest (2 * h) x) ≡ slot_of x * 2 ^ h + (2 ^ h - 1)
  unfolding slot_of
  slot_high = ap (λ (m : ℕ). gather m (highest (2 * h) x)) (sym all-pairs) ∙ highs x h (16 - h) ∙ ap (λ (m : ℕ). m * 2 ^ h + (2 ^ h - 1)) (sym (short-pairs x (omega arith)))

  pub holder_low : holder_of (lowest (2 * h) x) ≡ holder_of x * 2 ^ h
  unfolding holder_of
  holder_low = ap (λ (m : ℕ). gather m (x * 2 ^ (2 * h) / 2)) (sym all-pairs) ∙ lows-half x h (16 - h) ∙ ap (◌* 2 ^ h) (sym (short-pairs (x / 2) (omega arith)))

  pub holder_high : holder_of (highest (2 * h) x) ≡ holder_of x * 2 ^ h + (2 ^ h - 1)
  unfolding holder_of
  holder_high = ap (λ (m : ℕ). gather m (highest (2 * h) x / 2)) (sym all-pairs) ∙ highs-half x h (16 - h) ∙ ap (λ (m : ℕ). m * 2 ^ h + (2 ^ h - 1)) (sym (short-pairs (x / 2) (omega arith)))

  -- and they are numbers of 16 bits
  pairs_end : (n : ℕ) → n ≤ x → gather 16 n * 2 ^ h + 2 ^ h ≤ 65536
  pairs_end n k =
      let s : gather 16 n < 2 ^ (16 - h) = omega (arith, short-pairs n k, gather_small (16 - h) n) in
      let m : suc (gather 16 n) * 2 ^ h ≤ 2 ^ (16 - h) * 2 ^ h = mul-le-mul_right (2 ^ h) s in
      let e : 16 - h + h ≡ 16 = omega arith in
      let p : 2 ^ (16 - h) * 2 ^ h ≡ 65536 = sym (pow-add 2 (16 - h) h) ∙ ap (2 ^◌) e in
      omega (arith, add-mul (gather 16 n) 1 (2 ^ h), ap (◌* 2 ^ h) (add-one (gather 16 n)))

  pub slot_end : slot_of x * 2 ^ h + 2 ^ h ≤ 65536
  unfolding slot_of
  slot_end = pairs_end x (omega arith)

  pub holder_end : holder_of x * 2 ^ h + 2 ^ h ≤ 65536
  unfolding holder_of
  holder_end = pairs_end (x / 2) (omega arith)
