-- Cells: the keys that share their first bits have their holders and slots in ranges.
-- Assumes nothing.
use mathlib.Core.Path.{◌≡◌, refl, ap, ◌∙◌}
use mathlib.Core.Bool.{Bool, true, false, ◌&&◌}
use Prim.Native.Nat.{ℕ, zero, suc, ◌+◌, ◌-◌, ◌*◌, ◌/◌, ◌%◌, ◌^◌, ◌<◌, ◌≤◌}
use native.Mathlib.Nat.{pow-suc, div-add-mod', mod-lt}
use native.Mathlib.Omega.{arith}
use lib.Dec.{leb}
use borrow.Author.Tests.{lt-leb, le-leb}
use Rattle.format.specs.declared.Range.{Range}
use Rattle.format.specs.declared.Rectangle.{Rectangle}
use Rattle.format.specs.Key.{gather, holder_of, slot_of}
use Rattle.format.specs.Answer.{contains, inside, is_within}
use Rattle.format.specs.Cell.{lowest, highest, Apart, before_holders, after_holders, before_slots, after_slots, Covers}
use Rattle.format.proofs.Lists.{and_both}

pub record Between (lo m hi : ℕ) : Type 0 where
  pub low : lo ≤ m
  pub high : m ≤ hi

-- numbers that agree but in their last w bits
gather_cell : (d w x r : ℕ) → r < 2 ^ w → Between (gather d (x * 2 ^ w)) (gather d (x * 2 ^ w + r)) (gather d (x * 2 ^ w + (2 ^ w - 1)))
unfolding gather
gather_cell zero w x r h = record { low = omega arith; high = omega arith }
gather_cell (suc d) zero x r h =
    let e : x * 1 + r ≡ x * 1 = omega arith in
    let e₁ : x * 1 + (1 - 1) ≡ x * 1 = omega arith in
    rw (e, e₁) (record { low = omega arith; high = omega arith })
gather_cell (suc d) (suc zero) x r h =
    let q₀ : x * 2 / 4 ≡ x / 2 = omega arith in
    let q : (x * 2 + r) / 4 ≡ x / 2 = omega arith in
    let q₁ : (x * 2 + (2 - 1)) / 4 ≡ x / 2 = omega arith in
    rw (q₀, q, q₁) (record { low = omega arith; high = omega arith })
gather_cell (suc d) (suc (suc w)) x r h =
    let P : ℕ = 2 ^ suc (suc w) in
    let p : P ≡ 4 * 2 ^ w = pow-suc 2 (suc w) ∙ ap (◌* 2) (pow-suc 2 w) ∙ omega arith in
    let e : x * P ≡ 4 * (x * 2 ^ w) = ap (x *◌) p ∙ omega arith in
    let q₀ : x * P / 4 ≡ x * 2 ^ w = omega arith in
    let q : (x * P + r) / 4 ≡ x * 2 ^ w + r / 4 = omega arith in
    let q₁ : (x * P + (P - 1)) / 4 ≡ x * 2 ^ w + (2 ^ w - 1) = omega arith in
    let b = gather_cell d w x (r / 4) (omega arith) in
    go (x * P) (x * P + r) (x * P + (P - 1)) (x * 2 ^ w) (x * 2 ^ w + r / 4) (x * 2 ^ w + (2 ^ w - 1)) q₀ q q₁ (omega arith) (omega arith) b
  where
    go : (n₀ n n₁ m₀ m m₁ : ℕ) → n₀ / 4 ≡ m₀ → n / 4 ≡ m → n₁ / 4 ≡ m₁ → n₀ % 2 ≡ 0 → n₁ % 2 ≡ 1 → Between (gather d m₀) (gather d m) (gather d m₁)
        → Between (n₀ % 2 + 2 * gather d (n₀ / 4)) (n % 2 + 2 * gather d (n / 4)) (n₁ % 2 + 2 * gather d (n₁ / 4))
    go n₀ n n₁ m₀ m m₁ e₀ e e₁ z o b = rw (e₀, e, e₁) (record { low = omega (arith, b.low); high = omega (arith, b.high) })

-- a key k with prefix x, w bits to come
pub slot_cell : (w x k : ℕ) → lowest w x ≤ k → k ≤ highest w x → Between (slot_of (lowest w x)) (slot_of k) (slot_of (highest w x))
unfolding slot_of
slot_cell w x k h h' =
    let e : lowest w x + (k - lowest w x) ≡ k = omega arith in
    rw e at (gather_cell 16 w x (k - lowest w x) (omega (arith, power w)))
  where
    power : (w : ℕ) → 1 ≤ 2 ^ w
    power zero = omega arith
    power (suc w) = omega (arith, pow-suc 2 w, power w)

pub holder_cell : (w x k : ℕ) → lowest w x ≤ k → k ≤ highest w x → Between (holder_of (lowest w x)) (holder_of k) (holder_of (highest w x))
unfolding holder_of
holder_cell zero x k h h' =
    let e : x * 1 + (1 - 1) ≡ x * 1 = omega arith in
    let f : k ≡ x * 1 = omega arith in
    rw (f, e) (record { low = omega arith; high = omega arith })
holder_cell (suc w) x k h h' =
    let p : 2 ^ suc w ≡ 2 * 2 ^ w = pow-suc 2 w ∙ omega arith in
    let e : x * 2 ^ suc w ≡ 2 * (x * 2 ^ w) = ap (x *◌) p ∙ omega arith in
    let q₀ : lowest (suc w) x / 2 ≡ lowest w x = omega arith in
    let q₁ : highest (suc w) x / 2 ≡ highest w x = omega (arith, power w) in
    let q : lowest w x + (k / 2 - lowest w x) ≡ k / 2 = omega arith in
    let b : Between (gather 16 (lowest w x)) (gather 16 (lowest w x + (k / 2 - lowest w x))) (gather 16 (highest w x)) = gather_cell 16 w x (k / 2 - lowest w x) (omega (arith, power w)) in
    rw (q₀, q₁, ← q) b
  where
    power : (w : ℕ) → 1 ≤ 2 ^ w
    power zero = omega arith
    power (suc w) = omega (arith, pow-suc 2 w, power w)

-- ---- cells and rectangles

power : (w : ℕ) → 1 ≤ 2 ^ w
power zero = omega arith
power (suc w) = omega (arith, pow-suc 2 w, power w)

pub prefix_cell : (w x k : ℕ) → k / 2 ^ w ≡ x → (lowest w x ≤ k) × (k ≤ highest w x)
prefix_cell w x k e =
    let d : k / 2 ^ w * 2 ^ w + k % 2 ^ w ≡ k = div-add-mod' k (2 ^ w) in
    let f : x * 2 ^ w + k % 2 ^ w ≡ k = rw e at d in
    let l : k % 2 ^ w < 2 ^ w = mod-lt k (power w) in
    (omega arith, omega arith)

and_no_left : (a b : Bool) → a ≡ false → a && b ≡ false
and_no_left a b e = rw e

and_no_right : (a b : Bool) → b ≡ false → a && b ≡ false
and_no_right true b e = e
and_no_right false b e = refl

pub before_range : (range : Range) (n : ℕ) → n < range.low → is_within range n ≡ false
unfolding is_within
before_range range n h = and_no_left (leb range.low n) (leb n range.high) (lt-leb range.low n h)

pub after_range : (range : Range) (n : ℕ) → range.high < n → is_within range n ≡ false
unfolding is_within
after_range range n h = and_no_right (leb range.low n) (leb n range.high) (lt-leb n range.high h)

pub within_range : (range : Range) (n : ℕ) → range.low ≤ n → n ≤ range.high → is_within range n ≡ true
unfolding is_within
within_range range n h k = and_both (le-leb range.low n h) (le-leb n range.high k)

pub apart_outside : (rectangle : Rectangle) (w x k : ℕ) → Apart rectangle w x → k / 2 ^ w ≡ x → inside rectangle k ≡ false
unfolding inside contains
apart_outside rectangle w x k p e =
    let (l, u) = prefix_cell w x k e in
    go (holder_cell w x k l u) (slot_cell w x k l u) p
  where
    go : Between (holder_of (lowest w x)) (holder_of k) (holder_of (highest w x)) → Between (slot_of (lowest w x)) (slot_of k) (slot_of (highest w x)) → Apart rectangle w x
        → is_within rectangle.holders (holder_of k) && is_within rectangle.slots (slot_of k) ≡ false
    go c d (before_holders q) = and_no_left _ _ (before_range rectangle.holders (holder_of k) (omega (arith, c.high)))
    go c d (after_holders q) = and_no_left _ _ (after_range rectangle.holders (holder_of k) (omega (arith, c.low)))
    go c d (before_slots q) = and_no_right (is_within rectangle.holders (holder_of k)) _ (before_range rectangle.slots (slot_of k) (omega (arith, d.high)))
    go c d (after_slots q) = and_no_right (is_within rectangle.holders (holder_of k)) _ (after_range rectangle.slots (slot_of k) (omega (arith, d.low)))

pub covers_inside : (rectangle : Rectangle) (w x k : ℕ) → Covers rectangle w x → k / 2 ^ w ≡ x → inside rectangle k ≡ true
unfolding inside contains
covers_inside rectangle w x k p e =
    let (l, u) = prefix_cell w x k e in
    let c = holder_cell w x k l u in
    let d = slot_cell w x k l u in
    and_both (within_range rectangle.holders (holder_of k) (omega arith) (omega arith)) (within_range rectangle.slots (slot_of k) (omega arith) (omega arith))
