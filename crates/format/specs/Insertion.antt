-- Paper 02, S-8: what the number that "absent" brings is for. Where the admission is then listed beside the others, that number is its rank.
-- The proof is proofs/Insertion.antt.
-- Assumes nothing.
use Rattle.std.specs.Prelude.{◌≡◌, ℕ}
use mathlib.Core.List.{List, map, Memᴰ}
use Rattle.format.specs.Seq.{insert_at}
use Rattle.format.specs.Key.{key_of}
use Rattle.format.specs.Image.{bands, list_of}
use Rattle.format.specs.Question.{returns}
use Rattle.format.specs.Answer.{absent, listed, lookup, page_of}
use Rattle.format.specs.Exact.{Accepted, AgreeOn}

-- the list of after is that of img with one admission more
pub record Inserted (img after : List ℕ) (admission : ℕ × ℕ) : Type 0 where
  pub there : Memᴰ admission (list_of after)
  pub others : (other : ℕ × ℕ) → (other ≡ admission → ⊥) → AgreeOn img after other

-- lookup in an accepted image brings a number for an absent admission
pub record AbsentIn (img : List ℕ) (holder slot smaller : ℕ) : Type 0 where
  pub accepted : Accepted img
  pub looked_up : lookup img holder slot ≡ returns (absent smaller)

pub record Insertion : Type 0 where
  -- lookup brings that number as the rank, where the admission is listed too
  pub rank : (img after : List ℕ) (holder slot smaller : ℕ) → AbsentIn img holder slot smaller → Accepted after → Inserted img after (holder, slot)
      → lookup after holder slot ≡ returns (listed smaller (map (page_of after (key_of holder slot)) bands))
  -- in the list so many admissions stand before it, and the others after it
  pub list : (img after : List ℕ) (holder slot smaller : ℕ) → AbsentIn img holder slot smaller → Accepted after → Inserted img after (holder, slot)
      → list_of after ≡ insert_at smaller (holder, slot) (list_of img)
