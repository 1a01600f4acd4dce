-- What a climb from an out-link to a root finds.
-- Assumes nothing.
use Rattle.std.specs.Prelude.{◌≡◌, List, ℕ, ◌+◌, ◌-◌, ◌*◌, ◌<◌, length, get_or}
use Rattle.format.specs.Image.{prefixes_at}

-- four bits lead from a root of band b to an out-link
pub record ClimbRight (img : List ℕ) (b link root bits : ℕ) : Type 0 where
  pub within : root < length (prefixes_at img (4 * (b - 1)))
  pub small : bits < 16
  pub prefix : get_or (prefixes_at img (4 * b)) link 0 ≡ 16 * get_or (prefixes_at img (4 * (b - 1))) root 0 + bits
