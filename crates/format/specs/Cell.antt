-- Cells: the keys that share their first bits, and how they lie to a rectangle. Contracts of crates below the jobs cite it.
-- Assumes nothing.
use Rattle.std.specs.Prelude.{ℕ, ◌+◌, ◌-◌, ◌*◌, ◌^◌, ◌<◌, ◌≤◌}
use Rattle.format.specs.declared.Rectangle.{Rectangle}
use Rattle.format.specs.Key.{holder_of, slot_of}

-- the first and the last key with prefix x, w bits to come
abbrev pub lowest : ℕ → ℕ → ℕ
lowest w x = x * 2 ^ w

abbrev pub highest : ℕ → ℕ → ℕ
highest w x = x * 2 ^ w + (2 ^ w - 1)

-- the rectangle has nothing of the cell
pub data Apart (rectangle : Rectangle) (w x : ℕ) : Type 0 where
  before_holders : holder_of (highest w x) < rectangle.holders.low → Apart rectangle w x
  after_holders : rectangle.holders.high < holder_of (lowest w x) → Apart rectangle w x
  before_slots : slot_of (highest w x) < rectangle.slots.low → Apart rectangle w x
  after_slots : rectangle.slots.high < slot_of (lowest w x) → Apart rectangle w x

-- or all of it
pub record Covers (rectangle : Rectangle) (w x : ℕ) : Type 0 where
  pub from_holder : rectangle.holders.low ≤ holder_of (lowest w x)
  pub to_holder : holder_of (highest w x) ≤ rectangle.holders.high
  pub from_slot : rectangle.slots.low ≤ slot_of (lowest w x)
  pub to_slot : slot_of (highest w x) ≤ rectangle.slots.high
