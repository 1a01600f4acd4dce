-- Sums of neighbouring fields of a word: from its bits the on bits of its pieces of 2, 4 and up to 32 bits.
-- Assumes nothing.
use mathlib.Core.Path.{◌≡◌, refl, sym, ap, ap₂, subst, ◌∙◌}
use Prim.Native.Nat.{ℕ, zero, suc, ◌+◌, ◌-◌, ◌*◌, ◌/◌, ◌%◌, ◌^◌, ◌<◌}
use native.Mathlib.Nat.{add_assoc, add-mul, mod-lt, mul_assoc, pow-suc, suc-mul, lt_of_lt_of_le, lt_of_le_of_lt}
use native.Mathlib.Omega.{arith}
use lib.Arith.{digits_lt}
use lib.Bits.{bit_and, and_block, and_mask, and_zero_r}
use lib.Count.{ones, ones_in, ones_cat, ones-le}
use lib.Pow.{pow-add, pow_pos, pow_mono, ones_lt, split, high, low, mod-pow-add, shr-shr}

-- the on bits of each of k pieces of m bits, each in a field of m bits
unfoldable pub counts_of : ℕ → ℕ → ℕ → ℕ
counts_of zero m w = 0
counts_of (suc k) m w = counts_of k m (w / 2 ^ m) * 2 ^ m + ones (w % 2 ^ m)

-- the lower of each two of k pairs of fields
unfoldable pub lower_of : ℕ → ℕ → ℕ
lower_of zero m = 0
lower_of (suc k) m = lower_of k m * 2 ^ (m + m) + (2 ^ m - 1)

-- k pairs
unfoldable pub twice : ℕ → ℕ
twice zero = zero
twice (suc k) = suc (suc (twice k))

pub twice_is : (k : ℕ) → twice k ≡ k + k
unfolding twice
twice_is zero = refl
twice_is (suc k) = omega (arith, twice_is k)

-- a number of m bits can be m
lt_power : (m : ℕ) → m < 2 ^ m
lt_power zero = omega arith
lt_power (suc m) = omega (arith, lt_power m, pow-suc 2 m)

-- a count fits in its field
count_fits : (m w : ℕ) → ones (w % 2 ^ m) < 2 ^ m
count_fits m w = lt_of_le_of_lt (ones-le m (w % 2 ^ m) (mod-lt w (pow_pos m))) (lt_power m)

-- the on bits of a piece are those of its two halves
pub ones_halves : (m w : ℕ) → ones (w % 2 ^ (m + m)) ≡ ones (w / 2 ^ m % 2 ^ m) + ones (w % 2 ^ m)
ones_halves m w = ap ones (mod-pow-add w m m) ∙ ones_cat m (w / 2 ^ m % 2 ^ m) (w % 2 ^ m) (mod-lt w (pow_pos m))

-- and those of a number are those of its lowest m bits and of the rest
pub ones-rest : (m w : ℕ) → ones w ≡ ones (w / 2 ^ m) + ones (w % 2 ^ m)
ones-rest m w = ap ones (sym (split w m)) ∙ ones_cat m (w / 2 ^ m) (w % 2 ^ m) (mod-lt w (pow_pos m))

-- two fields, the higher of them with all above it
two_fields : (m a b c : ℕ) → (a * 2 ^ m + b) * 2 ^ m + c ≡ a * 2 ^ (m + m) + (b * 2 ^ m + c)
two_fields m a b c =
    ap (◌+ c) (add-mul (a * 2 ^ m) b (2 ^ m))
    ∙ add_assoc (a * 2 ^ m * 2 ^ m) (b * 2 ^ m) c
    ∙ ap (◌+ (b * 2 ^ m + c)) (mul_assoc a (2 ^ m) (2 ^ m) ∙ ap (a *◌) (sym (pow-add 2 m m)))

fields_lt : (m : ℕ) {b c : ℕ} → b < 2 ^ m → c < 2 ^ m → b * 2 ^ m + c < 2 ^ (m + m)
fields_lt m {b} {c} h k = subst (λ (n : ℕ). b * 2 ^ m + c < n) (sym (pow-add 2 m m)) (digits_lt h k)

-- of two fields the lower is kept
keep_lower : (m a l b c : ℕ) → b < 2 ^ m → c < 2 ^ m → bit_and ((a * 2 ^ m + b) * 2 ^ m + c) (l * 2 ^ (m + m) + (2 ^ m - 1)) ≡ bit_and a l * 2 ^ (m + m) + c
keep_lower m a l b c h k =
    ap (λ (n : ℕ). bit_and n (l * 2 ^ (m + m) + (2 ^ m - 1))) (two_fields m a b c)
    ∙ and_block (m + m) a l (b * 2 ^ m + c) (2 ^ m - 1) (fields_lt m h k) (lt_of_lt_of_le (ones_lt m) (pow_mono (omega arith)))
    ∙ ap (bit_and a l * 2 ^ (m + m) +◌) (and_mask (b * 2 ^ m + c) m ∙ low b m k)

-- sums field by field
gathered : (p q c d n : ℕ) → (p * n + c) + (q * n + d) ≡ (p + q) * n + (d + c)
gathered p q c d n = omega (arith, add-mul p q n)

-- the sums of neighbours are the counts over pieces of twice the width
sums_are : (k m w : ℕ) → bit_and (counts_of (twice k) m w) (lower_of k m) + bit_and (counts_of (twice k) m w / 2 ^ m) (lower_of k m) ≡ counts_of k (m + m) w
unfolding counts_of lower_of twice
sums_are zero m w = ap₂ ◌+◌ (and_zero_r 0) (and_zero_r (0 / 2 ^ m))
sums_are (suc k) m w =
    let c : ℕ = ones (w % 2 ^ m) in
    let d : ℕ = ones (w / 2 ^ m % 2 ^ m) in
    let rest : ℕ = counts_of (twice k) m (w / 2 ^ m / 2 ^ m) in
    let l : ℕ = lower_of k m in
    let one : bit_and ((rest * 2 ^ m + d) * 2 ^ m + c) (l * 2 ^ (m + m) + (2 ^ m - 1)) ≡ bit_and rest l * 2 ^ (m + m) + c =
    keep_lower m rest l d c (count_fits m (w / 2 ^ m)) (count_fits m w) in
    let two : bit_and (((rest * 2 ^ m + d) * 2 ^ m + c) / 2 ^ m) (l * 2 ^ (m + m) + (2 ^ m - 1)) ≡ bit_and (rest / 2 ^ m) l * 2 ^ (m + m) + d =
    ap (λ (n : ℕ). bit_and n (l * 2 ^ (m + m) + (2 ^ m - 1))) (high (rest * 2 ^ m + d) m (count_fits m w) ∙ ap (λ (n : ℕ). n * 2 ^ m + d) (sym (split rest m)))
    ∙ keep_lower m (rest / 2 ^ m) l (rest % 2 ^ m) d (mod-lt rest (pow_pos m)) (count_fits m (w / 2 ^ m)) in
    ap₂ ◌+◌ one two
    ∙ gathered (bit_and rest l) (bit_and (rest / 2 ^ m) l) c d (2 ^ (m + m))
    ∙ ap₂ (λ (x y : ℕ). x * 2 ^ (m + m) + y) (sums_are k m (w / 2 ^ m / 2 ^ m) ∙ ap (counts_of k (m + m)) (shr-shr w m m)) (sym (ones_halves m w))

-- the same of what the code adds
pub sums_of : (k m w : ℕ) {x lower r : ℕ} → x ≡ counts_of (twice k) m w → lower ≡ lower_of k m → r ≡ bit_and x lower + bit_and (x / 2 ^ m) lower → r ≡ counts_of k (m + m) w
sums_of k m w ex el er = er ∙ ap₂ (λ (y l : ℕ). bit_and y l + bit_and (y / 2 ^ m) l) ex el ∙ sums_are k m w

-- one field
pub field_is : (k m w f : ℕ) → f < k → counts_of k m w / 2 ^ (f * m) % 2 ^ m ≡ ones (w / 2 ^ (f * m) % 2 ^ m)
unfolding counts_of
field_is zero m w f h = absurd (omega arith)
field_is (suc k) m w zero h =
    ap (◌% 2 ^ m) (whole (counts_of (suc k) m w)) ∙ low (counts_of k m (w / 2 ^ m)) m (count_fits m w) ∙ ap (λ (n : ℕ). ones (n % 2 ^ m)) (sym (whole w))
  where
    none : 0 * m ≡ 0
    none = omega arith

    whole : (n : ℕ) → n / 2 ^ (0 * m) ≡ n
    whole n = ap (λ (x : ℕ). n / 2 ^ x) none ∙ (let e : n / 1 ≡ n = omega arith in e)
field_is (suc k) m w (suc f) h =
    ap (◌% 2 ^ m) (past (counts_of (suc k) m w) ∙ ap (◌/ 2 ^ (f * m)) (high (counts_of k m (w / 2 ^ m)) m (count_fits m w)))
    ∙ field_is k m (w / 2 ^ m) f (omega arith)
    ∙ ap (λ (n : ℕ). ones (n % 2 ^ m)) (sym (past w))
  where
    past : (n : ℕ) → n / 2 ^ (suc f * m) ≡ n / 2 ^ m / 2 ^ (f * m)
    past n = let e : suc f * m ≡ m + f * m = omega (arith, suc-mul f m) in ap (λ (x : ℕ). n / 2 ^ x) e ∙ sym (shr-shr n m (f * m))

-- a bit is its own count
pub bit-ones : (b : ℕ) → b < 2 → ones b ≡ b
unfolding ones ones_in
bit-ones zero h = refl
bit-ones (suc zero) h = refl
bit-ones (suc (suc b)) h = absurd (omega arith)

-- the bits of a word are counts over pieces of one bit
pub bits_are : (k w : ℕ) → w < 2 ^ k → counts_of k 1 w ≡ w
unfolding counts_of
bits_are zero w h = omega arith
bits_are (suc k) w h =
    let e = bits_are k (w / 2) (omega (arith, pow-suc 2 k)) in
    let f : ones (w % 2) ≡ w % 2 = bit-ones (w % 2) (omega arith) in
    omega arith
