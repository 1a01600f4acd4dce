-- One bit turned on: in a byte, in its pairs, and in a row of pairs.
-- Assumes nothing.
use mathlib.Core.Path.{◌≡◌, refl, sym, ap, ◌∙◌}
use mathlib.Core.List.{List, [], ◌∷◌, ◌++◌, flat_map}
use Prim.Native.Nat.{ℕ, zero, suc, ◌+◌, ◌-◌, ◌*◌, ◌/◌, ◌%◌, ◌^◌, ◌<◌}
use native.Mathlib.Nat.{pow-succ', div-div-eq-div-mul}
use native.Mathlib.Omega.{arith}
use native.Mathlib.Decide.{dec_lt}
use lib.ListN.{length, get_or, set, length-append, get_or-append}
use lib.Seq.{get_or-append-add}
use Rattle.format.specs.Trie.{bits, on_bits}
use Rattle.format.specs.Page.{pairs_of}
use Rattle.format.proofs.Subtries.{on_bits-append}

-- ---- a bit more in a row of pairs

-- qs has one on bit more than ps, and they are the same but at one place
pub record Raised (ps qs : List ℕ) : Type 0 where
  pub same_length : length ps ≡ length qs
  pub more : on_bits qs ≡ on_bits ps + 1
  pub place : ℕ
  pub elsewhere : (j : ℕ) → (j ≡ place → ⊥) → get_or ps j 0 ≡ get_or qs j 0

raised_head : (x y : ℕ) (ps : List ℕ) → bits y ≡ bits x + 1 → Raised (x ∷ ps) (y ∷ ps)
unfolding on_bits
raised_head x y ps e = record { same_length = refl; more = omega arith; place = 0; elsewhere = at }
  where
    at : (j : ℕ) → (j ≡ 0 → ⊥) → get_or (x ∷ ps) j 0 ≡ get_or (y ∷ ps) j 0
    at zero f = absurd (f refl)
    at (suc j) f = refl

raised_after : (x : ℕ) (ps qs : List ℕ) → Raised ps qs → Raised (x ∷ ps) (x ∷ qs)
unfolding on_bits
raised_after x ps qs r = record { same_length = ap suc r.same_length; more = omega (arith, r.more); place = suc r.place; elsewhere = at }
  where
    at : (j : ℕ) → (j ≡ suc r.place → ⊥) → get_or (x ∷ ps) j 0 ≡ get_or (x ∷ qs) j 0
    at zero f = refl
    at (suc j) f = r.elsewhere j (λ e. f (ap suc e))

raised_before : (ps qs rest : List ℕ) → Raised ps qs → Raised (ps ++ rest) (qs ++ rest)
raised_before ps qs rest r =
    record {
      same_length = length-append ps rest ∙ ap (◌+ length rest) r.same_length ∙ sym (length-append qs rest);
      more = omega (arith, on_bits-append ps rest, on_bits-append qs rest, r.more);
      place = r.place;
      elsewhere = λ j f. elim (dec_lt j (length ps)) [
        | yes h ↦ get_or-append ps rest 0 j h ∙ r.elsewhere j f ∙ sym (get_or-append qs rest 0 j (omega (arith, r.same_length)))
        | no h ↦ let e : length ps + (j - length ps) ≡ j = omega arith in
            let e' : length qs + (j - length ps) ≡ j = omega (arith, r.same_length) in
            ap (λ (m : ℕ). get_or (ps ++ rest) m 0) (sym e)
            ∙ get_or-append-add ps rest (j - length ps) 0
            ∙ sym (ap (λ (m : ℕ). get_or (qs ++ rest) m 0) (sym e') ∙ get_or-append-add qs rest (j - length ps) 0)
      ];
    }

-- one bit of a pair, the second or the first, turned on
second_on : (u v : ℕ) → v ≡ u + 1 → u % 2 ≡ 0 → bits v ≡ bits u + 1
unfolding bits
second_on u v e z = rw e (omega arith)

first_on : (u v : ℕ) → v ≡ u + 2 → bits v ≡ bits u + 1
unfolding bits
first_on u v e = rw e (omega arith)

raised_in : (l ps qs : List ℕ) → Raised ps qs → Raised (l ++ ps) (l ++ qs)
raised_in [] ps qs r = r
raised_in (x ∷ l) ps qs r = raised_after x (l ++ ps) (l ++ qs) (raised_in l ps qs r)

-- the last n digits of a number in base 4; those of a byte are its pairs
unfoldable pub digits : ℕ → ℕ → List ℕ
digits zero x = []
digits (suc n) x = digits n (x / 4) ++ x % 4 ∷ []

pub byte_digits : (x : ℕ) → x < 256 → digits 4 x ≡ pairs_of x
unfolding digits pairs_of
byte_digits x h =
    let e₀ : x / 4 / 4 / 4 % 4 ≡ x / 64 = omega arith in
    let e₁ : x / 4 / 4 % 4 ≡ x / 16 % 4 = omega arith in
    λ i. e₀ i ∷ e₁ i ∷ x / 4 % 4 ∷ x % 4 ∷ []

-- one bit of the last digit turned on
last_raised : (n x y : ℕ) → y / 4 ≡ x / 4 → bits (y % 4) ≡ bits (x % 4) + 1 → Raised (digits (suc n) x) (digits (suc n) y)
unfolding digits
last_raised n x y e b = rw e (raised_in (digits n (x / 4)) (x % 4 ∷ []) (y % 4 ∷ []) (raised_head (x % 4) (y % 4) [] b))

-- one bit of the digits before the last turned on
before_raised : (n x y z : ℕ) → y / 4 ≡ z → y % 4 ≡ x % 4 → Raised (digits n (x / 4)) (digits n z) → Raised (digits (suc n) x) (digits (suc n) y)
unfolding digits
before_raised n x y z e f r = rw (e, f) (raised_before (digits n (x / 4)) (digits n z) (x % 4 ∷ []) r)

-- one bit of a number turned on
pub raised_digits : (n k x : ℕ) → k < 2 * n → x / 2 ^ k % 2 ≡ 0 → Raised (digits n x) (digits n (x + 2 ^ k))
raised_digits zero k x h z = absurd (omega arith)
raised_digits (suc n) zero x h z = last_raised n x (x + 1) (omega arith) (second_on (x % 4) ((x + 1) % 4) (omega arith) (omega arith))
raised_digits (suc n) (suc zero) x h z = last_raised n x (x + 2) (omega arith) (first_on (x % 4) ((x + 2) % 4) (omega arith))
raised_digits (suc n) (suc (suc k)) x h z =
    let p : 2 ^ suc (suc k) ≡ 4 * 2 ^ k = pow-succ' 2 (suc k) ∙ ap (2 *◌) (pow-succ' 2 k) ∙ omega arith in
    let q : x / 4 / 2 ^ k % 2 ≡ 0 = ap (◌% 2) (div-div-eq-div-mul x 4 (2 ^ k) ∙ ap (λ (m : ℕ). x / m) (sym p)) ∙ z in
    before_raised n x (x + 2 ^ suc (suc k)) (x / 4 + 2 ^ k) (omega arith) (omega arith) (raised_digits n k (x / 4) (omega arith) q)

-- it stays within as many bits
pub raised_small : (n k x : ℕ) → k < n → x < 2 ^ n → x / 2 ^ k % 2 ≡ 0 → x + 2 ^ k < 2 ^ n
raised_small zero k x h b z = absurd (omega arith)
raised_small (suc n) zero x h b z = omega (arith, pow-succ' 2 n)
raised_small (suc n) (suc k) x h b z =
    let p : 2 ^ suc k ≡ 2 * 2 ^ k = pow-succ' 2 k in
    let q : x / 2 / 2 ^ k % 2 ≡ 0 = ap (◌% 2) (div-div-eq-div-mul x 2 (2 ^ k) ∙ ap (λ (m : ℕ). x / m) (sym p)) ∙ z in
    omega (arith, pow-succ' 2 n, raised_small n k (x / 2) (omega arith) (omega (arith, pow-succ' 2 n)) q)

-- one bit of a byte turned on, in a run of bytes
pub raised_pairs : (l : List ℕ) (j y : ℕ) → j < length l → Raised (pairs_of (get_or l j 0)) (pairs_of y) → Raised (flat_map pairs_of l) (flat_map pairs_of (set l j y))
unfolding flat_map
raised_pairs [] j y h r = absurd (omega arith)
raised_pairs (x ∷ l) zero y h r = raised_before (pairs_of x) (pairs_of y) (flat_map pairs_of l) r
raised_pairs (x ∷ l) (suc j) y h r = raised_in (pairs_of x) (flat_map pairs_of l) (flat_map pairs_of (set l j y)) (raised_pairs l j y (omega arith) r)
