-- An on bit in a page: its word by the counts before the words, and its node and side by its place in the word.
-- Assumes nothing.
use mathlib.Core.Path.{◌≡◌, refl, sym, ap, ap₂, subst, ◌∙◌}
use mathlib.Core.List.{List, [], ◌∷◌}
use Prim.Native.Nat.{ℕ, zero, suc, ◌+◌, ◌-◌, ◌*◌, ◌/◌, ◌%◌, ◌^◌, ◌≤◌, ◌<◌}
use native.Mathlib.Nat.{div-eq_of_lt, lt_of_lt_of_le}
use native.Mathlib.Decide.{dec_le, ℕ_discrete}
use native.Mathlib.Numerals.{add-one}
use native.Mathlib.Omega.{arith}
use lib.Count.{ones, ones_step}
use lib.ListN.{get_or}
use lib.Pow.{pow_mono, shr-shr}
use Rattle.nodes.specs.Words.{counts_before, node_in, ones_before}
use Rattle.pages.specs.Page.{child_in}
use Rattle.climb.specs.Select.{Selected, SideOf}

-- each count is at most the one before it and the on bits of the word between
counts_next : (a : ℕ) (ws : List ℕ) (j : ℕ) → get_or (counts_before a ws) (suc j) 0 ≤ get_or (counts_before a ws) j 0 + ones (get_or ws j 0)
unfolding counts_before
counts_next a [] j = omega arith
counts_next a (w ∷ []) zero = omega arith
counts_next a (w ∷ v ∷ ws) zero = omega arith
counts_next a (w ∷ ws) (suc j) = counts_next (a + ones w) ws j

-- the counts before the words
module _ (word : List ℕ) {before : List ℕ} (eb : before ≡ counts_before 0 word) where
  pub none_first : get_or before 0 0 ≡ 0
  none_first = ap (λ (l : List ℕ). get_or l 0 0) eb ∙ go word
    where
      go : (ws : List ℕ) → get_or (counts_before 0 ws) 0 0 ≡ 0
      go [] = unfold counts_before in refl
      go (w ∷ ws) = unfold counts_before in refl

  pub left_few : (j : ℕ) {number : ℕ} → get_or before j 0 ≤ number → number < get_or before (j + 1) 0 → number - get_or before j 0 < ones (get_or word j 0)
  left_few j {number} h k =
      let e : get_or before (j + 1) 0 ≡ get_or (counts_before 0 word) (suc j) 0 = ap₂ (λ (l : List ℕ) (n : ℕ). get_or l n 0) eb (add-one j) in
      omega (arith, e, ap (λ (l : List ℕ). get_or l j 0) eb, counts_next 0 word j)

-- from the place of the bit in its word, counted from the lowest, to the bit in the page
module _ (word before : List ℕ) (small : get_or word 0 0 < 4294967296) {number j r : ℕ} (hj : j < 8) (from : get_or before j 0 ≤ number)
    (s : Selected (get_or word j 0) (number - get_or before j 0) r) where
  -- the word
  abbrev w : ℕ
  w = get_or word j 0

  -- the upper half of word 0 has no nodes
  pub bit-from : r ≤ 64 * j + 31
  bit-from = go j refl
    where
      go : (i : ℕ) → i ≡ j → r ≤ 64 * i + 31
      go (suc i) e = omega (arith, s.within)
      go zero e = elim (dec_le r 31) [
        | yes h ↦ h
        | no h ↦ let z : w / 2 ^ r ≡ 0 = div-eq_of_lt (lt_of_lt_of_le (omega (arith, small, ap (λ (n : ℕ). get_or word n 0) e)) (pow_mono {i = 32} {j = r} (omega arith))) in absurd (omega (arith, s.on))
      ]

  -- the bit, counted from the page's first
  abbrev pub bit_at : ℕ
  bit_at = 64 * j + 31 - r

  pub bit_in_lem : bit_at / 2 < 240
  bit_in_lem = omega (arith, bit-from)

  -- where the node stands
  in_word : (bit_at / 2 + 16) / 32 ≡ j
  in_word = omega (arith, bit-from, s.within)

  at_place : (bit_at / 2 + 16) % 32 ≡ (63 - r) / 2
  at_place = omega (arith, bit-from, s.within)

  -- the on bits before the node, and the node, by places in the word
  marks-are : (e : ℕ) → 64 - 2 * ((63 - r) / 2) ≡ e → ones_before word before (bit_at / 2) ≡ get_or before j 0 + ones (w / 2 ^ e)
  unfolding ones_before
  marks-are e h =
      let k : 64 - 2 * ((bit_at / 2 + 16) % 32) ≡ e = omega (arith, at_place) in
      ap₂ (λ (i n : ℕ). get_or before i 0 + ones (get_or word i 0 / 2 ^ n)) in_word k

  node_is : (e : ℕ) → 62 - 2 * ((63 - r) / 2) ≡ e → node_in word (bit_at / 2) ≡ w / 2 ^ e % 4
  unfolding node_in
  node_is e h =
      let k : 62 - 2 * ((bit_at / 2 + 16) % 32) ≡ e = omega (arith, at_place) in
      ap₂ (λ (i n : ℕ). get_or word i 0 / 2 ^ n % 4) in_word k

  -- an odd place is a node's first bit, an even one its second
  pub bit_side : SideOf word before (bit_at / 2) number (bit_at % 2)
  unfolding child_in
  bit_side =
      elim (ℕ_discrete (r % 2) 1) [
        | yes odd ↦ let t : bit_at % 2 ≡ 0 = omega (arith, bit-from) in
            let m = marks-are (r + 1) (omega (arith, s.within)) in
            let v = node_is (r - 1) (omega (arith, s.within)) in
            let e : r - 1 + 1 ≡ r = omega arith in
            let y : w / 2 ^ (r - 1) / 2 ≡ w / 2 ^ r = shr-shr w (r - 1) 1 ∙ ap (λ (n : ℕ). w / 2 ^ n) e in
            let on : 1 ≤ node_in word (bit_at / 2) / 2 = omega (arith, v, y, s.on) in
            let number_is : 0 + ones_before word before (bit_at / 2) ≡ number = omega (arith, m, s.above, from) in
            subst (SideOf word before (bit_at / 2) number) (sym t) (record { small = omega arith; on = on; number = number_is })
        | no even ↦ let t : bit_at % 2 ≡ 1 = omega (arith, bit-from) in
            let m = marks-are (r + 2) (omega (arith, s.within)) in
            let v = node_is r (omega (arith, s.within)) in
            let x = shr-shr w r 1 in
            let e : r + 1 + 1 ≡ r + 2 = omega arith in
            let y : w / 2 ^ (r + 1) / 2 ≡ w / 2 ^ (r + 2) = shr-shr w (r + 1) 1 ∙ ap (λ (n : ℕ). w / 2 ^ n) e in
            let o = ones_step (w / 2 ^ (r + 1)) ∙ ap (λ (n : ℕ). w / 2 ^ (r + 1) % 2 + ones n) y in
            let on : 1 ≤ node_in word (bit_at / 2) % 2 = omega (arith, v, s.on) in
            let number_is : 0 + ones_before word before (bit_at / 2) + node_in word (bit_at / 2) / 2 ≡ number = omega (arith, m, v, x, o, s.above, from) in
            subst (SideOf word before (bit_at / 2) number) (sym t) (record { small = omega arith; on = on; number = number_is })
      ]
