-- The last node of a page that is not 00, from the zeros at a word's end.
-- Assumes nothing.
use mathlib.Core.Path.{◌≡◌, refl, sym, ap, ap₂, ◌∙◌}
use mathlib.Core.List.{List}
use Prim.Native.Nat.{ℕ, zero, suc, ◌+◌, ◌-◌, ◌*◌, ◌/◌, ◌%◌, ◌^◌, ◌≤◌, ◌<◌}
use native.Mathlib.Nat.{div-one, zero-div}
use native.Mathlib.Omega.{arith}
use native.Mathlib.Decide.{dec_lt, ℕ_discrete}
use lib.Count.{trailing_le, trailing_of_zero, count_trailing_zeros, under}
use lib.Pow.{mod-pow-add, shr-shr}
use lib.ListN.{get_or}
use Rattle.nodes.specs.Words.{node_in, pairs_in}
use Rattle.nodes.proofs.Pairs.{pair_in}
use Rattle.repair.specs.Inner.{EmptyAfter, NodesEnd}

-- ---- the zeros at the end of a number of k binary digits

shift_one : (n s : ℕ) → n / 2 ^ suc s ≡ n / 2 / 2 ^ s
shift_one n s = let e : 1 + s ≡ suc s = omega arith in ap (λ (m : ℕ). n / 2 ^ m) (sym e) ∙ sym (shr-shr n 1 s)

below : (k n s : ℕ) → s < count_trailing_zeros k n → n / 2 ^ s % 2 ≡ 0
unfolding count_trailing_zeros
below zero n s h = absurd (omega arith)
below (suc k) n s h = go (n % 2) refl s h (below k (n / 2))
  where
    go : (d : ℕ) → n % 2 ≡ d → (s : ℕ) → s < under d (count_trailing_zeros k (n / 2)) → ((s : ℕ) → s < count_trailing_zeros k (n / 2) → n / 2 / 2 ^ s % 2 ≡ 0) → n / 2 ^ s % 2 ≡ 0
    go zero e zero h ih = ap (◌% 2) (div-one n) ∙ e
    go zero e (suc s) h ih = ap (◌% 2) (shift_one n s) ∙ ih s (omega arith)
    go (suc d) e s h ih = absurd (omega arith)

set_there : (k n : ℕ) → count_trailing_zeros k n < k → n / 2 ^ count_trailing_zeros k n % 2 ≡ 1
unfolding count_trailing_zeros
set_there zero n h = absurd (omega arith)
set_there (suc k) n h = go (n % 2) refl h (set_there k (n / 2))
  where
    go : (d : ℕ) → n % 2 ≡ d → under d (count_trailing_zeros k (n / 2)) < suc k → (count_trailing_zeros k (n / 2) < k → n / 2 / 2 ^ count_trailing_zeros k (n / 2) % 2 ≡ 1) → n / 2 ^ under d (count_trailing_zeros k (n / 2)) % 2 ≡ 1
    go zero e h ih = ap (◌% 2) (shift_one n (count_trailing_zeros k (n / 2))) ∙ ih (omega arith)
    go (suc d) e h ih = ap (◌% 2) (div-one n) ∙ omega arith

all_zero_lem : (k n : ℕ) → count_trailing_zeros k n ≡ k → n % 2 ^ k ≡ 0
unfolding count_trailing_zeros
all_zero_lem zero n e = omega arith
all_zero_lem (suc k) n e = go (n % 2) refl e (all_zero_lem k (n / 2))
  where
    go : (d : ℕ) → n % 2 ≡ d → under d (count_trailing_zeros k (n / 2)) ≡ suc k → (count_trailing_zeros k (n / 2) ≡ k → n / 2 % 2 ^ k ≡ 0) → n % 2 ^ suc k ≡ 0
    go zero d h ih =
        let z : n / 2 % 2 ^ k ≡ 0 = ih (omega arith) in
        let s : k + 1 ≡ suc k = omega arith in
        ap (λ (m : ℕ). n % 2 ^ m) (sym s) ∙ mod-pow-add n k 1 ∙ omega arith
    go (suc d) e h ih = absurd (omega arith)

-- two digits at a time
pub empty_after : (w : ℕ) → w < 2 ^ 64 → EmptyAfter w (count_trailing_zeros 64 w / 2)
empty_after w h =
    let t : ℕ = count_trailing_zeros 64 w in
    record {
      few = omega (arith, trailing_le 64 w);
      zeros = λ m k. two m (below 64 w (2 * m) (omega arith)) (below 64 w (suc (2 * m)) (omega arith));
      none = λ z. let e : count_trailing_zeros 64 w ≡ 64 = ap (count_trailing_zeros 64) z ∙ trailing_of_zero 64 in omega arith;
      node = λ n. let few : count_trailing_zeros 64 w < 64 = within n in (omega arith, some few);
    }
  where
    two : (m : ℕ) → w / 2 ^ (2 * m) % 2 ≡ 0 → w / 2 ^ suc (2 * m) % 2 ≡ 0 → w / 2 ^ (2 * m) % 4 ≡ 0
    two m a b = half (w / 2 ^ (2 * m)) a (ap (◌% 2) (next m) ∙ b)
      where
        half : (x : ℕ) → x % 2 ≡ 0 → x / 2 % 2 ≡ 0 → x % 4 ≡ 0
        half x a b = omega arith

        next : (m : ℕ) → w / 2 ^ (2 * m) / 2 ≡ w / 2 ^ suc (2 * m)
        next m = let e : 2 * m + 1 ≡ suc (2 * m) = omega arith in shr-shr w (2 * m) 1 ∙ ap (λ (s : ℕ). w / 2 ^ s) e

    within : (w ≡ 0 → ⊥) → count_trailing_zeros 64 w < 64
    within n = elim (dec_lt (count_trailing_zeros 64 w) 64) [
      | yes k ↦ k
      | no k ↦ let e : count_trailing_zeros 64 w ≡ 64 = omega (arith, trailing_le 64 w) in absurd (n (omega (arith, all_zero_lem 64 w e)))
    ]

    some : count_trailing_zeros 64 w < 64 → 1 ≤ w / 2 ^ (2 * (count_trailing_zeros 64 w / 2)) % 4
    some few = elim (ℕ_discrete (count_trailing_zeros 64 w % 2) 0) [
      | yes e ↦ let d : 2 * (count_trailing_zeros 64 w / 2) ≡ count_trailing_zeros 64 w = omega arith in odd (w / 2 ^ (2 * (count_trailing_zeros 64 w / 2))) (ap (λ (s : ℕ). w / 2 ^ s % 2) d ∙ set_there 64 w few)
      | no e ↦ let d : 2 * (count_trailing_zeros 64 w / 2) + 1 ≡ count_trailing_zeros 64 w = omega arith in
          odd-above (w / 2 ^ (2 * (count_trailing_zeros 64 w / 2))) (ap (◌% 2) (shr-shr w (2 * (count_trailing_zeros 64 w / 2)) 1 ∙ ap (λ (s : ℕ). w / 2 ^ s) d) ∙ set_there 64 w few)
    ]
      where
        odd : (x : ℕ) → x % 2 ≡ 1 → 1 ≤ x % 4
        odd x e = omega arith

        odd-above : (x : ℕ) → x / 2 % 2 ≡ 1 → 1 ≤ x % 4
        odd-above x e = omega arith

-- ---- the page's words, from the last

pub record Emptied (word : List ℕ) (j : ℕ) : Type 0 where
  pub within : j ≤ 7
  pub later : (i : ℕ) → j < i → i ≤ 7 → get_or word i 0 ≡ 0

pub emptied_start : (word : List ℕ) → Emptied word 7
emptied_start word = record { within = omega arith; later = λ i a b. absurd (omega arith) }

pub emptied_all : {word : List ℕ} {j : ℕ} → Emptied word j → j ≤ 0 → Emptied word 0
emptied_all u h = record { within = omega arith; later = λ i a b. u.later i (omega arith) b }

module _ {word : List ℕ} {j : ℕ} (u : Emptied word j) where
  pub emptied_next : 0 < j → get_or word j 0 ≡ 0 → Emptied word (j - 1)
  emptied_next h z =
      record {
        within = omega (arith, u.within);
        later = λ i a b. elim (ℕ_discrete i j) [ yes e ↦ ap (λ (i : ℕ). get_or word i 0) e ∙ z | no e ↦ u.later i (omega arith) b ];
      }

  module _ (e : ℕ) (is : EmptyAfter (get_or word j 0) e) where
    -- node p of word j, and of a later one
    zero-here : (p : ℕ) → p < 240 → (p + 16) / 32 ≡ j → 31 - (p + 16) % 32 < e → get_or (pairs_in word) p 0 ≡ 0
    unfolding node_in
    zero-here p h at k =
        let s : 62 - 2 * ((p + 16) % 32) ≡ 2 * (31 - (p + 16) % 32) = omega arith in
        pair_in word p h
        ∙ ap₂ (λ (i t : ℕ). get_or word i 0 / 2 ^ t % 4) at s
        ∙ is.zeros (31 - (p + 16) % 32) k

    zero-later : (p : ℕ) → p < 240 → j < (p + 16) / 32 → get_or (pairs_in word) p 0 ≡ 0
    unfolding node_in
    zero-later p h k =
        pair_in word p h
        ∙ ap (λ (w : ℕ). w / 2 ^ (62 - 2 * ((p + 16) % 32)) % 4) (u.later ((p + 16) / 32) k (omega arith))
        ∙ ap (◌% 4) (zero-div (2 ^ (62 - 2 * ((p + 16) % 32))))

    zero-from : (p : ℕ) → 16 + 32 * j - e ≤ p → e ≤ 16 + 32 * j → p < 240 → get_or (pairs_in word) p 0 ≡ 0
    zero-from p from enough h =
        elim (ℕ_discrete ((p + 16) / 32) j) [
          | yes at ↦ zero-here p h at (omega arith)
          | no at ↦ zero-later p h (omega (arith, is.few))
        ]

    -- the node before them
    node_there : (get_or word j 0 ≡ 0 → ⊥) → 1 ≤ 16 + 32 * j - e → 1 ≤ get_or (pairs_in word) (16 + 32 * j - e - 1) 0
    unfolding node_in
    node_there n h =
        let some = is.node n in
        let p : ℕ = 16 + 32 * j - e - 1 in
        let at : (p + 16) / 32 ≡ j = omega arith in
        let s : 62 - 2 * ((p + 16) % 32) ≡ 2 * e = omega arith in
        let is-node : get_or (pairs_in word) p 0 ≡ get_or word j 0 / 2 ^ (2 * e) % 4 = pair_in word p (omega (arith, u.within)) ∙ ap₂ (λ (i t : ℕ). get_or word i 0 / 2 ^ t % 4) at s in
        omega (arith, is-node)

    pub ends_here : (get_or word j 0 ≡ 0 → ⊥) → e ≤ 16 + 32 * j → NodesEnd (pairs_in word) (16 + 32 * j - e)
    ends_here n h = record { few = omega (arith, u.within); zeros = λ p from to. zero-from p from h to; node = node_there n }

    -- a page that has none
    pub ends_first : j ≡ 0 → 16 < e → NodesEnd (pairs_in word) 0
    ends_first z h =
        record {
          few = omega arith;
          zeros = λ p from to. elim (ℕ_discrete ((p + 16) / 32) j) [ yes at ↦ zero-here p to at (omega arith) | no at ↦ zero-later p to (omega arith) ];
          node = λ k. absurd (omega arith);
        }

    pub some_there : e ≤ 16 → get_or word j 0 ≡ 0 → ⊥
    some_there h z = omega (arith, is.none z)
