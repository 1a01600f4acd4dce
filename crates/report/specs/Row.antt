-- The parts of the listing program's output, and what it is to write one of them.
-- Assumes nothing.
use Rattle.std.specs.Prelude.{◌≡◌, ℕ, ◌+◌, ◌≤◌, List, [], ◌∷◌, ◌++◌, length}
use Rattle.std.proofs.lemmas.List.Edits.{sets}
use Rattle.format.specs.Key.{holder_of, slot_of}
use Rattle.format.specs.Text.{decimal}

-- a number in decimal, and a byte after it
unfoldable pub field_of : ℕ → ℕ → List ℕ
field_of n end = decimal n ++ end ∷ []

-- holder, slot and rank of a key, one space between, and a line feed
unfoldable pub row_of : ℕ → ℕ → List ℕ
row_of key rank = field_of (holder_of key) 32 ++ field_of (slot_of key) 32 ++ field_of rank 10

-- xs, of at most `most` bytes, were written into `before` from place `at` on: the buffer then holds `after`, and `next` is the place after them
pub record Put (before : List ℕ) (at : ℕ) (xs : List ℕ) (most : ℕ) (after : List ℕ) (next : ℕ) : Type 0 where
  pub stored : after ≡ sets before at xs
  pub place : next ≡ at + length xs
  pub few : length xs ≤ most
