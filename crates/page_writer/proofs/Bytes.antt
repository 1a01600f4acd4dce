-- A number's two bytes, as the library stores them.
-- Assumes nothing.
use mathlib.Core.Path.{◌≡◌, ap}
use mathlib.Core.List.{[], ◌∷◌}
use mir.Syntax.{w16}
use Prim.Native.Nat.{ℕ, ◌/◌, ◌%◌, ◌<◌}
use native.Mathlib.Omega.{arith}
use Rattle.std.specs.Int.{to_be_bytes}
use Rattle.format.specs.Page.{two_bytes}

pub two_high_first : (x : ℕ) → x < 65536 → to_be_bytes w16 x ≡ two_bytes x
unfolding two_bytes
two_high_first x h = let e : x / 256 % 256 ≡ x / 256 = omega arith in ap (◌∷ x % 256 ∷ []) e
