-- The header's 64 bytes. One number tells an image's version and lift: 0 is version 1, which names no lift, and 1 to 999 is version 2 with that lift.
-- Assumes nothing.
use Rattle.std.specs.Prelude.{ℕ, zero, suc, replicate}
use mathlib.Core.List.{List, [], ◌∷◌, ◌++◌, flat_map}
use Rattle.format.specs.Page.{two_bytes}

-- bytes 0 to 2, the mark: "LPT"
unfoldable pub mark : List ℕ
mark = 0x4C ∷ 0x50 ∷ 0x54 ∷ []

-- the version of an image for a lift
unfoldable pub version_for : ℕ → ℕ
version_for zero = 1
version_for (suc n) = 2

-- bytes 0 to 5: the mark, the version and a zero
unfoldable pub header_start : ℕ → List ℕ
header_start lift = mark ++ two_bytes (version_for lift) ++ 0 ∷ []

-- bytes 40 to 63: the lift, which is 0 in version 1, and zeros
unfoldable pub header_end : ℕ → List ℕ
header_end lift = two_bytes lift ++ replicate 22 0

-- all 64, for a lift and n keys, where counts are the page count and the root count of each band
unfoldable pub header : ℕ → ℕ → List ℕ → List ℕ
header lift n counts = header_start lift ++ two_bytes n ++ flat_map two_bytes counts ++ header_end lift
