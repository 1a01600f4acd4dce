-- Whether none of the first nodes of a page's words is 00: a loop over the words, and words 0 to 6 at once. Assumes nothing.
use mathlib.Core.Path.{◌≡◌, refl, sym, ap, ap₂, ◌∙◌}
use mathlib.Core.Bool.{Bool, true, false, ◌&&◌}
use mathlib.Core.List.{List, [], ◌∷◌, map}
use Prim.Native.Nat.{ℕ, suc, ◌+◌, ◌-◌, ◌*◌, ◌/◌, ◌^◌, ◌≤◌, ◌<◌}
use native.Mathlib.Numerals.{add-one}
use native.Mathlib.Decide.{ℕ_discrete}
use native.Mathlib.Omega.{arith}
use borrow.Author.Tests.{eq-eqb, ne_eqb, lt-ltb, le-ltb}
use lib.Bits.{bit_and, bit_or, and_le_l, and_le_r, and_self}
use lib.Dec.{eqb}
use lib.ListN.{get_or}
use Rattle.format.specs.Seq.{numbers_from}
use Rattle.nodes.specs.Words.{low_bits, used_nodes, all_used, filled_up, none_empty}

-- word j, in w, and those after it are left, with so many of the first n nodes
pub record Passing (word : List ℕ) (n left j w : ℕ) : Type 0 where
  pub some : 1 ≤ left
  pub place : 32 * j + left ≡ n + 16
  pub rest : none_empty word n ≡ all_used (w ∷ map (λ i. get_or word i 0) (numbers_from (suc j) (8 - j))) left

pub passing_start : (word : List ℕ) (n : ℕ) → Passing word n (n + 16) 0 (bit_or (get_or word 0 0) 0xffff_ffff_0000_0000)
unfolding none_empty filled_up
passing_start word n = record { some = omega arith; place = omega arith; rest = refl }

module _ (word : List ℕ) (n left j w : ℕ) (p : Passing word n left j w) where
  pub passing_next : n ≤ 240 → 32 < left → used_nodes w ≡ low_bits → Passing word n (left - 32) (j + 1) (get_or word (j + 1) 0)
  unfolding all_used numbers_from
  passing_next h big full =
      let e : 8 - j ≡ suc (8 - (j + 1)) = omega arith in
      let f : (m : ℕ) → numbers_from (suc j) (suc m) ≡ (j + 1) ∷ numbers_from (suc (j + 1)) m = λ m. rw add-one in
      record {
        some = omega arith;
        place = omega (arith, p.place);
        rest =
            p.rest
            ∙ rw (lt-ltb 32 left big, eq-eqb (used_nodes w) low_bits full)
            (ap (λ (is : List ℕ). all_used (map (λ i. get_or word i 0) is) (left - 32)) (ap (numbers_from (suc j)) e ∙ f (8 - (j + 1))));
      }

  pub passing_no : 32 < left → (used_nodes w ≡ low_bits → ⊥) → false ≡ none_empty word n
  unfolding all_used
  passing_no big gap = sym (p.rest ∙ rw (lt-ltb 32 left big, ne_eqb (used_nodes w) low_bits gap))

  pub passing_end : left ≤ 32 → none_empty word n ≡ eqb (used_nodes (w / 2 ^ (64 - 2 * left))) (low_bits / 2 ^ (64 - 2 * left))
  unfolding all_used
  passing_end low = p.rest ∙ rw (le-ltb 32 left low)

-- ---- words 0 to 6 at once

-- two numbers of the low bits have them all in common where each has them all
both_full : (a b : ℕ) → a ≤ low_bits → b ≤ low_bits → eqb (bit_and a b) low_bits ≡ eqb a low_bits && eqb b low_bits
both_full a b ha hb = elim (ℕ_discrete a low_bits) [
  | yes e ↦ elim (ℕ_discrete b low_bits) [
    | yes f ↦ eq-eqb (bit_and a b) low_bits (ap₂ bit_and e f ∙ and_self low_bits) ∙ sym (ap₂ ◌&&◌ (eq-eqb a low_bits e) (eq-eqb b low_bits f))
    | no f ↦ ne_eqb (bit_and a b) low_bits (λ g. f (omega (arith, and_le_r a b))) ∙ sym (ap₂ ◌&&◌ (eq-eqb a low_bits e) (ne_eqb b low_bits f))
  ]
  | no e ↦ ne_eqb (bit_and a b) low_bits (λ g. e (omega (arith, and_le_l a b))) ∙ sym (ap (◌&& eqb b low_bits) (ne_eqb a low_bits e))
]

used_low : (w : ℕ) → used_nodes w ≤ low_bits
used_low w = and_le_r (bit_or w (w / 2)) low_bits

and_low : (a b : ℕ) → a ≤ low_bits → bit_and a b ≤ low_bits
and_low a b h = omega (arith, and_le_l a b)

and_seven : (a b c d e f g h : Bool) → a && (b && (c && (d && (e && (f && (g && h)))))) ≡ (((a && b) && (c && d)) && ((e && f) && g)) && h
and_seven false b c d e f g h = refl
and_seven true false c d e f g h = refl
and_seven true true false d e f g h = refl
and_seven true true true false e f g h = refl
and_seven true true true true false f g h = refl
and_seven true true true true true false g h = refl
and_seven true true true true true true false h = refl
and_seven true true true true true true true h = refl

-- one full word more
used_step : (w : ℕ) (ws : List ℕ) (n m : ℕ) → n ≡ 32 + m → 1 ≤ m → all_used (w ∷ ws) n ≡ eqb (used_nodes w) low_bits && all_used ws m
unfolding all_used
used_step w ws n m e h =
    let f : n - 32 ≡ m = omega arith in
    rw (lt-ltb 32 n (omega arith)) (ap (λ (x : ℕ). eqb (used_nodes w) low_bits && all_used ws x) f)

-- seven words' low bits in common
abbrev pub in_common : (a b c d e f g : ℕ) → ℕ
in_common a b c d e f g = bit_and (bit_and (bit_and (used_nodes a) (used_nodes b)) (bit_and (used_nodes c) (used_nodes d))) (bit_and (bit_and (used_nodes e) (used_nodes f)) (used_nodes g))

module _ (a b c d e f g : ℕ) where
  common-full : eqb (in_common a b c d e f g) low_bits
      ≡ (((eqb (used_nodes a) low_bits && eqb (used_nodes b) low_bits) && (eqb (used_nodes c) low_bits && eqb (used_nodes d) low_bits))
      && ((eqb (used_nodes e) low_bits && eqb (used_nodes f) low_bits) && eqb (used_nodes g) low_bits))
  common-full =
      let ab = and_low (used_nodes a) (used_nodes b) (used_low a) in
      let cd = and_low (used_nodes c) (used_nodes d) (used_low c) in
      let ef = and_low (used_nodes e) (used_nodes f) (used_low e) in
      both_full (bit_and (bit_and (used_nodes a) (used_nodes b)) (bit_and (used_nodes c) (used_nodes d))) (bit_and (bit_and (used_nodes e) (used_nodes f)) (used_nodes g)) (and_low _ _ ab) (and_low _ _ ef)
      ∙ ap₂ ◌&&◌
      (both_full (bit_and (used_nodes a) (used_nodes b)) (bit_and (used_nodes c) (used_nodes d)) ab cd
      ∙ ap₂ ◌&&◌ (both_full (used_nodes a) (used_nodes b) (used_low a) (used_low b)) (both_full (used_nodes c) (used_nodes d) (used_low c) (used_low d)))
      (both_full (bit_and (used_nodes e) (used_nodes f)) (used_nodes g) ef (used_low g)
      ∙ ap (◌&& eqb (used_nodes g) low_bits) (both_full (used_nodes e) (used_nodes f) (used_low e) (used_low f)))

module _ (word : List ℕ) (k : ℕ) (lo : 0 < k) (hi : k ≤ 32) where
  w : ℕ → ℕ
  w i = get_or word i 0

  first : ℕ
  first = bit_or (get_or word 0 0) 0xffff_ffff_0000_0000

  late : none_empty word (208 + k)
      ≡ eqb (in_common (bit_or (get_or word 0 0) 0xffff_ffff_0000_0000) (get_or word 1 0) (get_or word 2 0) (get_or word 3 0) (get_or word 4 0) (get_or word 5 0) (get_or word 6 0)) low_bits
      && eqb (used_nodes (get_or word 7 0 / 2 ^ (64 - 2 * k))) (low_bits / 2 ^ (64 - 2 * k))
  unfolding none_empty filled_up numbers_from w first
  late =
      let full : ℕ → Bool = λ x. eqb (used_nodes x) low_bits in
      used_step first _ (208 + k + 16) (192 + k) (omega arith) (omega arith)
      ∙ ap (full first &&◌) (used_step (w 1) _ (192 + k) (160 + k) (omega arith) (omega arith)
      ∙ ap (full (w 1) &&◌) (used_step (w 2) _ (160 + k) (128 + k) (omega arith) (omega arith)
      ∙ ap (full (w 2) &&◌) (used_step (w 3) _ (128 + k) (96 + k) (omega arith) (omega arith)
      ∙ ap (full (w 3) &&◌) (used_step (w 4) _ (96 + k) (64 + k) (omega arith) (omega arith)
      ∙ ap (full (w 4) &&◌) (used_step (w 5) _ (64 + k) (32 + k) (omega arith) (omega arith)
      ∙ ap (full (w 5) &&◌) (used_step (w 6) _ (32 + k) k refl lo
      ∙ ap (full (w 6) &&◌) last))))))
      ∙ and_seven (full first) (full (w 1)) (full (w 2)) (full (w 3)) (full (w 4)) (full (w 5)) (full (w 6)) _
      ∙ ap (◌&& eqb (used_nodes (w 7 / 2 ^ (64 - 2 * k))) (low_bits / 2 ^ (64 - 2 * k))) (sym (common-full first (w 1) (w 2) (w 3) (w 4) (w 5) (w 6)))
    where
      last : all_used (get_or word 7 0 ∷ get_or word 8 0 ∷ []) k ≡ eqb (used_nodes (get_or word 7 0 / 2 ^ (64 - 2 * k))) (low_bits / 2 ^ (64 - 2 * k))
      last = unfold all_used in rw (le-ltb 32 k hi)

  module _ (x : ℕ)
      (ex : x ≡ in_common (bit_or (get_or word 0 0) 0xffff_ffff_0000_0000) (get_or word 1 0) (get_or word 2 0) (get_or word 3 0) (get_or word 4 0) (get_or word 5 0) (get_or word 6 0)) where
    pub late_no : (x ≡ low_bits → ⊥) → false ≡ none_empty word (208 + k)
    late_no n = sym (late ∙ ap (◌&& eqb (used_nodes (get_or word 7 0 / 2 ^ (64 - 2 * k))) (low_bits / 2 ^ (64 - 2 * k))) (ne_eqb _ low_bits (λ e. n (ex ∙ e))))

    pub late_yes : x ≡ low_bits → (y : ℕ) → y ≡ used_nodes (get_or word 7 0 / 2 ^ (64 - 2 * k)) → eqb y (low_bits / 2 ^ (64 - 2 * k)) ≡ none_empty word (208 + k)
    late_yes f y ey =
        ap (λ (z : ℕ). eqb z (low_bits / 2 ^ (64 - 2 * k))) ey
        ∙ sym (late ∙ ap (◌&& eqb (used_nodes (get_or word 7 0 / 2 ^ (64 - 2 * k))) (low_bits / 2 ^ (64 - 2 * k))) (eq-eqb _ low_bits (sym ex ∙ f)))
