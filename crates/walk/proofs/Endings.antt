-- The on bits of a set of 16, one after the other: what is left of the set after some endings, and its next on bit.
-- Assumes nothing.
use mathlib.Core.Path.{◌≡◌, sym, ap, ◌∙◌}
use Prim.Native.Nat.{ℕ, suc, ◌+◌, ◌-◌, ◌*◌, ◌/◌, ◌%◌, ◌^◌, ◌≤◌, ◌<◌}
use native.Mathlib.Nat.{add-mul, add-zero, mul-add-div_right, div-eq_of_lt, mul_assoc, pow-le-pow_right}
use native.Mathlib.Decide.{dec_le, dec_lt}
use native.Mathlib.Omega.{arith}
use lib.Count.{count_leading_zeros, leading_top}
use lib.Pow.{pow-add}
use Rattle.subtries.specs.Subtrie.{set_bit}
use Rattle.walk.specs.Walk.{FirstOn}

pub power_positive : (w : ℕ) → 1 ≤ 2 ^ w
power_positive w = pow-le-pow_right {n = 2} (omega arith) {i = 0} {j = w} (omega arith)

-- the first on bit is found by the zeros before it
pub first_found : (set : ℕ) → 0 < set → set < 65536 → (16 ≤ count_leading_zeros 32 set) × FirstOn set (count_leading_zeros 32 set - 16)
first_found set some small =
    let t = leading_top 32 set some (omega arith) in
    let j : ℕ = t.0 in
    let h : t.0 < 16 =
    elim (dec_lt t.0 16) [
      | yes k ↦ k
      | no k ↦ absurd (omega (arith, t.2, pow-le-pow_right {n = 2} (omega arith) {i = 16} {j = t.0} (omega arith)))
    ] in
    let e : 15 - (count_leading_zeros 32 set - 16) ≡ t.0 = omega (arith, t.1) in
    let f : 16 - (count_leading_zeros 32 set - 16) ≡ suc t.0 = omega (arith, t.1) in
    (omega (arith, t.1), record { small = omega (arith, t.1); on = rw e t.2; first = rw f t.3 })

-- the bit of an ending
pub bit_of_ending : (e : ℕ) → e < 16 → 32768 / 2 ^ e ≡ 2 ^ (15 - e)
bit_of_ending e h =
    let n : 15 - e + e ≡ 15 = omega arith in
    let p : 32768 ≡ 2 ^ (15 - e) * 2 ^ e + 0 = sym (ap (2 ^◌) n) ∙ pow-add 2 (15 - e) e ∙ sym (add-zero (2 ^ (15 - e) * 2 ^ e)) in
    ap (◌/ 2 ^ e) p ∙ mul-add-div_right (power_positive e) (2 ^ (15 - e)) 0 ∙ ap (2 ^ (15 - e) +◌) (div-eq_of_lt (power_positive e)) ∙ add-zero (2 ^ (15 - e))

-- what is left of a set from the ending v on
pub record Left (set v rest : ℕ) : Type 0 where
  pub above : ℕ
  pub to : v ≤ 16
  pub is : set ≡ above * 2 ^ (16 - v) + rest
  pub small : rest < 2 ^ (16 - v)

pub left_start : (set : ℕ) → set < 65536 → Left set 0 set
left_start set h = record { above = 0; to = omega arith; is = omega arith; small = h }

module _ {set v rest : ℕ} (l : Left set v rest) where
  pub left_small : rest < 65536
  left_small = omega (arith, l.small, pow-le-pow_right {n = 2} (omega arith) {i = 16 - v} {j = 16} (omega arith))

  -- its bits are those of the set
  left-bit : (u : ℕ) → v ≤ u → u < 16 → set_bit set 16 u ≡ rest / 2 ^ (15 - u) % 2
  left-bit u from to =
      let P : ℕ = 2 ^ (15 - u) in
      let Q : ℕ = 2 ^ (u - v) in
      let e : 16 - v ≡ u - v + 1 + (15 - u) = omega (arith, l.to) in
      let p : 2 ^ (16 - v) ≡ 2 ^ (u - v + 1) * 2 ^ (15 - u) = ap (2 ^◌) e ∙ pow-add 2 (u - v + 1) (15 - u) in
      let q : 2 ^ (u - v + 1) ≡ 2 ^ (u - v) * 2 = pow-add 2 (u - v) 1 in
      let n : set ≡ l.above * 2 ^ (u - v + 1) * 2 ^ (15 - u) + rest = l.is ∙ ap (λ (k : ℕ). l.above * k + rest) p ∙ ap (◌+ rest) (sym (mul_assoc l.above (2 ^ (u - v + 1)) (2 ^ (15 - u)))) in
      let d : set / 2 ^ (15 - u) ≡ l.above * 2 ^ (u - v + 1) + rest / 2 ^ (15 - u) = ap (◌/ 2 ^ (15 - u)) n ∙ mul-add-div_right (power_positive (15 - u)) (l.above * 2 ^ (u - v + 1)) rest in
      let even : l.above * 2 ^ (u - v + 1) ≡ l.above * 2 ^ (u - v) * 2 = ap (l.above *◌) q ∙ sym (mul_assoc l.above (2 ^ (u - v)) 2) in
      ap (◌% 2) d ∙ two (l.above * 2 ^ (u - v + 1)) (l.above * 2 ^ (u - v)) (rest / 2 ^ (15 - u)) even
    where
      two : (a b c : ℕ) → a ≡ b * 2 → (a + c) % 2 ≡ c % 2
      two a b c e = omega arith

  -- before a number's first bit there are none
  pub left_off : (e : ℕ) → e ≤ 16 → rest < 2 ^ (16 - e) → (u : ℕ) → v ≤ u → u < e → set_bit set 16 u ≡ 0
  left_off e le h u from to =
      let p : 2 ^ (16 - e) ≤ 2 ^ (15 - u) = pow-le-pow_right {n = 2} (omega arith) {i = 16 - e} {j = 15 - u} (omega arith) in
      let z : rest / 2 ^ (15 - u) ≡ 0 = div-eq_of_lt (omega arith) in
      left-bit u from (omega arith) ∙ ap (◌% 2) z

  pub left_none : rest ≡ 0 → (u : ℕ) → v ≤ u → u < 16 → set_bit set 16 u ≡ 0
  left_none z u from to = left_off 16 (omega arith) (omega arith) u from to

  module _ {e : ℕ} (f : FirstOn rest e) where
    twice : 2 ^ (16 - e) ≡ 2 * 2 ^ (15 - e)
    twice = let n : 16 - e ≡ 15 - e + 1 = omega (arith, f.small) in ap (2 ^◌) n ∙ pow-add 2 (15 - e) 1 ∙ omega arith

    pub first_from : v ≤ e
    first_from = elim (dec_le v e) [
      | yes h ↦ h
      | no h ↦ absurd (omega (arith, l.small, f.on, pow-le-pow_right {n = 2} (omega arith) {i = 16 - v} {j = 15 - e} (omega (arith, l.to))))
    ]

    pub first_bit_on : set_bit set 16 e ≡ 1
    first_bit_on =
        let r : ℕ = rest - 2 ^ (15 - e) in
        let n : rest ≡ 1 * 2 ^ (15 - e) + r = omega (arith, f.on) in
        let s : r < 2 ^ (15 - e) = omega (arith, f.first, f.on, twice) in
        let d : rest / 2 ^ (15 - e) ≡ 1 = ap (◌/ 2 ^ (15 - e)) n ∙ mul-add-div_right (power_positive (15 - e)) 1 r ∙ ap (1 +◌) (div-eq_of_lt s) in
        left-bit e first_from f.small ∙ ap (◌% 2) d

    pub left_next : Left set (e + 1) (rest - 2 ^ (15 - e))
    left_next =
        let k : 16 - v ≡ e - v + 1 + (15 - e) = omega (arith, f.small, first_from) in
        let p : 2 ^ (16 - v) ≡ 2 ^ (e - v + 1) * 2 ^ (15 - e) = ap (2 ^◌) k ∙ pow-add 2 (e - v + 1) (15 - e) in
        let n : set ≡ l.above * 2 ^ (e - v + 1) * 2 ^ (15 - e) + rest = l.is ∙ ap (λ (j : ℕ). l.above * j + rest) p ∙ ap (◌+ rest) (sym (mul_assoc l.above (2 ^ (e - v + 1)) (2 ^ (15 - e)))) in
        let m : 16 - (e + 1) ≡ 15 - e = omega arith in
        record {
          above = l.above * 2 ^ (e - v + 1) + 1;
          to = omega (arith, f.small);
          is = n ∙ one_more (l.above * 2 ^ (e - v + 1)) (2 ^ (15 - e)) rest f.on ∙ ap (λ (j : ℕ). (l.above * 2 ^ (e - v + 1) + 1) * 2 ^ j + (rest - 2 ^ (15 - e))) (sym m);
          small = rw m (omega (arith, f.first, f.on, twice));
        }
      where
        one_more : (a P n : ℕ) → P ≤ n → a * P + n ≡ (a + 1) * P + (n - P)
        one_more a P n h = omega (arith, add-mul a 1 P)
