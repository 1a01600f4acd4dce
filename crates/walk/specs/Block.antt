-- Blocks of the square as the walks hold them, and how they lie to a rectangle.
-- Assumes nothing.
use Rattle.std.specs.Prelude.{◌⊎◌, ◌≡◌, ℕ, ◌≤◌, ◌<◌}
use Rattle.format.specs.declared.Range.{Range}
use Rattle.format.specs.declared.Rectangle.{Rectangle}
use Rattle.format.specs.Key.{holder_of, slot_of}
use Rattle.format.specs.Cell.{Apart as CellApart, Covers}
use Rattle.walk.specs.declared.block.Block.{Block}
use Rattle.walk.specs.declared.block.Place.{Place}
use Rattle.walk.specs.declared.block.Place.TheVariants.{Apart, Inside, Across}

-- the holder's and the slot's bits of a block's prefix
pub record BlockOf (block : Block) : Type 0 where
  pub holder_is : block.holder ≡ holder_of block.prefix
  pub slot_is : block.slot ≡ slot_of block.prefix

-- the numbers from first to last have none of a range, or are all in it
abbrev pub RangeRight : Range → ℕ → ℕ → Place → Type 0
RangeRight range first last Apart = (last < range.low) ⊎ (range.high < first)
RangeRight range first last Inside = (range.low ≤ first) × (last ≤ range.high)
RangeRight range first last Across = Unit {0}

-- the keys with prefix x, w bits to come, have none of a rectangle, or are all inside
abbrev pub PlaceRight : Rectangle → ℕ → ℕ → Place → Type 0
PlaceRight rectangle w x Apart = CellApart rectangle w x
PlaceRight rectangle w x Inside = Covers rectangle w x
PlaceRight rectangle w x Across = Unit {0}
