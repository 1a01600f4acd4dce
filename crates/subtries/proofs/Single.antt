-- A subtrie that is a single path: under a set of one bit stands one node, and the out-links are the two bits of the fourth.
-- Assumes nothing.
use mathlib.Core.List.{List}
use mathlib.Core.Path.{◌≡◌, refl, sym, ap, ap₂, ◌∙◌}
use Prim.Native.Nat.{ℕ, zero, suc, ◌+◌, ◌-◌, ◌*◌, ◌/◌, ◌%◌, ◌^◌, ◌≤◌, ◌<◌}
use native.Mathlib.Nat.{add-zero, mod-lt, mul_left_comm, mul-one, one-mul, pow-succ', pow-le-pow_right}
use native.Mathlib.Omega.{arith}
use lib.Count.{ones, ones_cat, ones-le}
use lib.ListN.{take, drop}
use Rattle.reader.specs.Page.{node_of}
use Rattle.subtries.specs.declared.spot.Spot.{Spot}
use Rattle.pages.specs.Page.{Ready}
use Rattle.subtries.specs.Spot.{SpotAt, root_prefix}
use Rattle.subtries.specs.Subtrie.{place_after, bits_after, if_on, path_set, SubtrieRead}
use Rattle.subtries.proofs.Sets.{bit_up, bit_last}
use Rattle.subtries.proofs.Spots.{start_valid, subtrie_read, next_spot}

-- ---- a set without its last bit

-- reading its first bits
place_up : (set w p v : ℕ) → v ≤ w → place_after set (suc w) p v ≡ place_after (set / 2) w p v
unfolding place_after
place_up set w p zero h = refl
place_up set w p (suc v) h = ap₂ ◌+◌ (place_up set w p v (omega arith)) (bit_up set w v h)

bits_up : (page : List ℕ) (set w p v : ℕ) → v ≤ w → bits_after page set (suc w) p v ≡ bits_after page (set / 2) w p v
unfolding bits_after
bits_up page set w p zero h = refl
bits_up page set w p (suc v) h =
    ap₂ (λ (m n : ℕ). 4 * m + n) (bits_up page set w p v (omega arith)) (ap₂ (λ (m n : ℕ). if_on m (node_of page n)) (bit_up set w v h) (place_up set w p v (omega arith)))

-- reading all of them
place_last : (set w p : ℕ) → place_after set (suc w) p (suc w) ≡ place_after (set / 2) w p w + set % 2
unfolding place_after
place_last set w p = ap₂ ◌+◌ (place_up set w p w (omega arith)) (bit_last set w)

bits_last : (page : List ℕ) (set w p : ℕ) → bits_after page set (suc w) p (suc w) ≡ 4 * bits_after page (set / 2) w p w + if_on (set % 2) (node_of page (place_after (set / 2) w p w))
unfolding bits_after
bits_last page set w p =
    ap₂ (λ (m n : ℕ). 4 * m + n) (bits_up page set w p w (omega arith)) (ap₂ (λ (m n : ℕ). if_on m (node_of page n)) (bit_last set w) (place_up set w p w (omega arith)))

-- ---- a set of no bits, and of one

-- no bits: no node is read
none_place : (w p : ℕ) → place_after 0 w p w ≡ p
none_place zero p = unfold place_after in refl
none_place (suc w) p = place_last 0 w p ∙ omega (arith, none_place w p)

none-bits : (page : List ℕ) (w p : ℕ) → bits_after page 0 w p w ≡ 0
none-bits page zero p = unfold bits_after in refl
none-bits page (suc w) p = bits_last page 0 w p ∙ omega (arith, none-bits page w p)

-- four times a power of four more
four_more : (n j : ℕ) → n * 4 ^ suc j ≡ 4 * (n * 4 ^ j)
four_more n j = ap (n *◌) (pow-succ' 4 j) ∙ mul_left_comm n 4 (4 ^ j)

-- bit j from the last
one_place : (j w p : ℕ) → j < w → place_after (2 ^ j) w p w ≡ p + 1
one_place j zero p h = absurd (omega arith)
one_place zero (suc w) p h = place_last 1 w p ∙ ap (◌+ 1) (none_place w p)
one_place (suc j) (suc w) p h =
    let m : 2 ^ suc j / 2 ≡ 2 ^ j = omega (arith, pow-succ' 2 j) in
    let z : 2 ^ suc j % 2 ≡ 0 = omega (arith, pow-succ' 2 j) in
    place_last (2 ^ suc j) w p ∙ ap₂ (λ (k n : ℕ). place_after k w p w + n) m z ∙ add-zero (place_after (2 ^ j) w p w) ∙ one_place j w p (omega arith)

one_bits : (page : List ℕ) (j w p : ℕ) → j < w → bits_after page (2 ^ j) w p w ≡ node_of page p * 4 ^ j
one_bits page j zero p h = absurd (omega arith)
one_bits page zero (suc w) p h =
    bits_last page 1 w p ∙ ap₂ (λ (k n : ℕ). 4 * k + node_of page n) (none-bits page w p) (none_place w p) ∙ (let e : 4 * 0 + node_of page p ≡ node_of page p * 1 = omega arith in e)
one_bits page (suc j) (suc w) p h =
    let m : 2 ^ suc j / 2 ≡ 2 ^ j = omega (arith, pow-succ' 2 j) in
    let z : 2 ^ suc j % 2 ≡ 0 = omega (arith, pow-succ' 2 j) in
    bits_last page (2 ^ suc j) w p
    ∙ ap₂ (λ (k n : ℕ). 4 * bits_after page k w p w + if_on n (node_of page (place_after k w p w))) m z
    ∙ ap (λ (k : ℕ). 4 * k + 0) (one_bits page j w p (omega arith))
    ∙ (let e : 4 * (node_of page p * 4 ^ j) + 0 ≡ node_of page p * 4 ^ suc j = omega (arith, four_more (node_of page p) j) in e)

-- ---- the nodes of a single path

-- a node of one bit
power_of : (n : ℕ) → 1 ≤ n → n ≤ 3 → (n ≡ 3 → ⊥) → n ≡ 2 ^ (1 - n % 2)
power_of zero lo hi f = absurd (omega arith)
power_of (suc zero) lo hi f = refl
power_of (suc (suc zero)) lo hi f = refl
power_of (suc (suc (suc n))) lo hi f = absurd (f (omega arith))

-- under bit j from the last it makes one bit again
one_below : (n t j : ℕ) → n ≡ 2 ^ t → n * 4 ^ j ≡ 2 ^ (2 * j + t)
one_below n t zero e = let z : t ≡ 2 * 0 + t = omega arith in mul-one n ∙ e ∙ ap (2 ^◌) z
one_below n t (suc j) e =
    let q : suc (suc (2 * j + t)) ≡ 2 * suc j + t = omega arith in
    four_more n j ∙ ap (4 *◌) (one_below n t j e) ∙ omega (arith, pow-succ' 2 (2 * j + t), pow-succ' 2 (suc (2 * j + t)), ap (2 ^◌) q)

-- the shift of the fourth node's bits, from the nodes above
places : (a b c : ℕ) → a < 2 → b < 2 → c < 2 → 14 - 2 * (4 * a + 2 * b + c) ≡ 2 * (2 * (2 * (1 - a) + (1 - b)) + (1 - c)) + 0
places a b c ha hb hc = omega arith

place_small : (a b c : ℕ) → 2 * (2 * (1 - a) + (1 - b)) + (1 - c) < 8
place_small a b c = omega arith

-- a node as a page has it
abbrev Valid : ℕ → Type 0
Valid n = (1 ≤ n) × (n ≤ 3)

module _ (page : List ℕ) {one two three four : ℕ} (second third fourth : ℕ) (e₂ : two ≡ node_of page second) (e₃ : three ≡ node_of page third) (e₄ : four ≡ node_of page fourth)
    (v₁ : Valid one) (v₂ : Valid two) (v₃ : Valid three) (n₁ : one ≡ 3 → ⊥) (n₂ : two ≡ 3 → ⊥) (n₃ : three ≡ 3 → ⊥) where
  -- level by level: one node is read, and its bits stand under the one bit above
  place₂ : second + 1 ≡ place_after one 2 second 2
  place₂ = sym (ap (λ (n : ℕ). place_after n 2 second 2) (power_of one v₁.0 v₁.1 n₁) ∙ one_place (1 - one % 2) 2 second (omega arith))

  bits₂ : bits_after page one 2 second 2 ≡ 2 ^ (2 * (1 - one % 2) + (1 - two % 2))
  bits₂ =
      ap (λ (n : ℕ). bits_after page n 2 second 2) (power_of one v₁.0 v₁.1 n₁)
      ∙ one_bits page (1 - one % 2) 2 second (omega arith)
      ∙ ap (◌* 4 ^ (1 - one % 2)) (sym e₂)
      ∙ one_below two (1 - two % 2) (1 - one % 2) (power_of two v₂.0 v₂.1 n₂)

  place₃ : third + 1 ≡ place_after (bits_after page one 2 second 2) 4 third 4
  place₃ = sym (ap (λ (n : ℕ). place_after n 4 third 4) bits₂ ∙ one_place (2 * (1 - one % 2) + (1 - two % 2)) 4 third (omega arith))

  bits₃ : bits_after page (bits_after page one 2 second 2) 4 third 4 ≡ 2 ^ (2 * (2 * (1 - one % 2) + (1 - two % 2)) + (1 - three % 2))
  bits₃ =
      ap (λ (n : ℕ). bits_after page n 4 third 4) bits₂
      ∙ one_bits page (2 * (1 - one % 2) + (1 - two % 2)) 4 third (omega arith)
      ∙ ap (◌* 4 ^ (2 * (1 - one % 2) + (1 - two % 2))) (sym e₃)
      ∙ one_below three (1 - three % 2) (2 * (1 - one % 2) + (1 - two % 2)) (power_of three v₃.0 v₃.1 n₃)

  place₄ : fourth + 1 ≡ place_after (bits_after page (bits_after page one 2 second 2) 4 third 4) 8 fourth 8
  place₄ = sym (ap (λ (n : ℕ). place_after n 8 fourth 8) bits₃ ∙ one_place (2 * (2 * (1 - one % 2) + (1 - two % 2)) + (1 - three % 2)) 8 fourth (place_small (one % 2) (two % 2) (three % 2)))

  -- the set that is read under the fourth level
  path-set : path_set one two three four ≡ bits_after page (bits_after page (bits_after page one 2 second 2) 4 third 4) 8 fourth 8
  unfolding path_set
  path-set =
      let j : ℕ = 2 * (2 * (1 - one % 2) + (1 - two % 2)) + (1 - three % 2) in
      let k : 14 - 2 * (4 * (one % 2) + 2 * (two % 2) + three % 2) ≡ 2 * j + 0 = places (one % 2) (two % 2) (three % 2) (mod-lt one (omega arith)) (mod-lt two (omega arith)) (mod-lt three (omega arith)) in
      ap (λ (n : ℕ). four * 2 ^ n) k
      ∙ ap (four *◌) (sym (one_below 1 0 j refl) ∙ one-mul (4 ^ j))
      ∙ sym (ap (λ (n : ℕ). bits_after page n 8 fourth 8) bits₃ ∙ one_bits page j 8 fourth (place_small (one % 2) (two % 2) (three % 2)) ∙ ap (◌* 4 ^ j) (sym e₄))

-- it has the on bits of the fourth node
path_ones : (one two three four : ℕ) → ones four ≡ ones (path_set one two three four)
unfolding path_set
path_ones one two three four =
    let k : ℕ = 14 - 2 * (4 * (one % 2) + 2 * (two % 2) + three % 2) in
    omega (arith, ones_cat k four 0 (pow-le-pow_right {n = 2} (omega arith) {i = 0} {j = k} (omega arith)), ap ones (add-zero (four * 2 ^ k)), ones-le 0 0 (omega arith))

-- ---- a step over a single path

module _ {img : List ℕ} (r : Ready img) {b : ℕ} (lo : 1 ≤ b) (hi : b ≤ 8) {spot : Spot} (s : SpotAt img b spot) {part : List ℕ} (ep : part ≡ take 64 (drop spot.at img))
    {one two three four : ℕ} (e₁ : one ≡ node_of part spot.first) (e₂ : two ≡ node_of part spot.second) (e₃ : three ≡ node_of part spot.third) (e₄ : four ≡ node_of part spot.fourth)
    (n₁ : one ≡ 3 → ⊥) (n₂ : two ≡ 3 → ⊥) (n₃ : three ≡ 3 → ⊥) {set : ℕ} (es : set ≡ path_set one two three four) where
  v₁ : Valid one
  v₁ = start_valid r lo hi s ep s.start₀ e₁

  v₂ : Valid two
  v₂ = start_valid r lo hi s ep s.start₁ e₂

  v₃ : Valid three
  v₃ = start_valid r lo hi s ep s.start₂ e₃

  set_is : set ≡ bits_after part (bits_after part (bits_after part one 2 spot.second 2) 4 spot.third 4) 8 spot.fourth 8
  set_is = es ∙ path-set part spot.second spot.third spot.fourth e₂ e₃ e₄ v₁ v₂ v₃ n₁ n₂ n₃

  -- the subtrie read
  pub path_read : SubtrieRead img b (root_prefix img b spot.root.0) set spot.link.0
  path_read = subtrie_read r lo hi s ep e₁ refl refl set_is

  -- the spot after it
  pub path_next : {next : Spot} → next.root.0 ≡ spot.root.0 + 1 → next.end.0 ≡ spot.end.0 → next.at ≡ spot.at → next.first ≡ spot.first + 1 → next.second ≡ spot.second + 1
      → next.third ≡ spot.third + 1 → next.fourth ≡ spot.fourth + 1 → {m : ℕ} → m ≡ ones four → next.link.0 ≡ spot.link.0 + m → next.root.0 < next.end.0 → SpotAt img b next
  path_next er en ea p₀ p₁ p₂ p₃ em el lt =
      next_spot r lo hi s ep e₁ refl refl set_is er en ea p₀
      (p₁ ∙ place₂ part spot.second spot.third spot.fourth e₂ e₃ e₄ v₁ v₂ v₃ n₁ n₂ n₃)
      (p₂ ∙ place₃ part spot.second spot.third spot.fourth e₂ e₃ e₄ v₁ v₂ v₃ n₁ n₂ n₃)
      (p₃ ∙ place₄ part spot.second spot.third spot.fourth e₂ e₃ e₄ v₁ v₂ v₃ n₁ n₂ n₃)
      (em ∙ path_ones one two three four ∙ ap ones (sym es)) el lt
