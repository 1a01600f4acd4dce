-- The rule of the table of spreads.
-- Assumes nothing.
use Rattle.std.specs.Prelude.{◌≡◌, List, ℕ, ◌<◌, get_or}
use Rattle.format.specs.Key.{spread}

-- entry b is the spread of the byte b
abbrev pub IsSpreads : List ℕ → Type 0
IsSpreads table = (b : ℕ) → b < 256 → get_or table b 0 ≡ spread 8 b
