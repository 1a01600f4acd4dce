-- The prefixes of an image's keys by their number: the roots of a band, its out-links, and the keys.
-- Assumes nothing.
use Rattle.std.specs.Prelude.{◌≡◌, List, ℕ, ◌<◌, length, get_or}
use Rattle.format.specs.Image.{prefixes_at}

-- prefix x has the number n among those of d bits
pub record AtPrefix (img : List ℕ) (d n x : ℕ) : Type 0 where
  pub within : n < length (prefixes_at img d)
  pub prefix : get_or (prefixes_at img d) n 0 ≡ x
