-- The listing program's output in the papers' terms: what is returned, and what the lent buffer holds.
-- Assumes nothing.
use Rattle.std.specs.Prelude.{◌≡◌, ℕ, ◌≤◌, List, ◌++◌, length, drop}
use Rattle.format.specs.Text.{printed}

-- the output for an image stands in the first bytes of a buffer, the rest is as it was, and its length is returned
pub record Reported (image before after : List ℕ) (size : ℕ) : Type 0 where
  pub returned : size ≡ length (printed image)
  pub bytes : after ≡ printed image ++ drop size before
  pub within : size ≤ length after
