-- What a repair gives: the theorems that paper 02, S-15, asks for. The proof is proofs/RepairLaws.antt.
-- Assumes nothing.
use Rattle.std.specs.Prelude.{◌≡◌, true, List, ◌++◌, ◌↔◌, ℕ, ◌≤◌, ◌<◌, length, get_or, drop}
use Rattle.format.specs.Seq.{All}
use Rattle.format.specs.Page.{Byte}
use Rattle.format.specs.Question.{refused, returns}
use Rattle.format.specs.Exact.{Accepted}
use Rattle.repair.specs.Kept.{Agree, kept}
use Rattle.repair.specs.Repair.{buffer_after_repair, differing, repair}

-- ---- the terms

-- an accepted image, of the length of img, that agrees with img in all the kept bytes
pub record Repairs (img new : List ℕ) : Type 0 where
  pub accepted : Accepted new
  pub agree : Agree img new

-- some kept byte differs
pub record KeptDiffers (a b : List ℕ) : Type 0 where
  pub place : ℕ
  pub is_kept : kept place ≡ true
  pub differs : get_or a place 0 ≡ get_or b place 0 → ⊥

-- the repair of img into a buffer gives this image, says that it altered so many numbers, and leaves the rest of the buffer
pub record Gives (img buffer new : List ℕ) (altered : ℕ) : Type 0 where
  pub returned : repair img buffer ≡ returns altered
  pub left : buffer_after_repair img buffer ≡ new ++ drop (length new) buffer

-- it refuses with this number, and leaves the buffer as lent
pub record Refuses (img buffer : List ℕ) (number : ℕ) : Type 0 where
  pub returned : repair img buffer ≡ refused number
  pub left : buffer_after_repair img buffer ≡ buffer

-- ---- the statement

pub record RepairLaws : Type 0 where
  -- "there can be only one such image"
  pub one : (img a b : List ℕ) → Repairs img a → Repairs img b → a ≡ b
  -- 17 is asked first, of any bytes
  pub short : (img buffer : List ℕ) → length buffer < length img → Refuses img buffer 17
  -- 37 exactly when there is no such image: in every accepted image of that length some kept byte differs
  pub none : (img buffer : List ℕ) → All Byte img → length img ≤ length buffer
      → ((new : List ℕ) → Accepted new → length new ≡ length img → KeptDiffers img new) ↔ Refuses img buffer 37
  -- else the output is that image, and the number of numbers that differ is returned
  pub some : (img new buffer : List ℕ) → All Byte img → length img ≤ length buffer → Repairs img new → Gives img buffer new (differing img new)
  -- an accepted image comes back as it is, with no number altered
  pub sound : (img buffer : List ℕ) → length img ≤ length buffer → Accepted img → Gives img buffer img 0
  -- an accepted image damaged in any of these numbers, one or all, comes back whole, and the number of damaged numbers is returned
  pub damaged : (img bad buffer : List ℕ) → All Byte bad → length bad ≤ length buffer → Accepted img → Agree bad img → Gives bad buffer img (differing bad img)
  -- there is no other damage: where no number differs, no byte does
  pub whole : (img bad : List ℕ) → All Byte bad → Accepted img → Agree bad img → differing bad img ≡ 0 → bad ≡ img
