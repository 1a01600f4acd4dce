-- Damage to one bit, and the statement of what the checker makes of it. The proof is proofs/FlipAnswers.antt.
-- Assumes nothing.
use Rattle.std.specs.Prelude.{◌≡◌, ◌⊎◌, ℕ, ◌+◌, ◌-◌, ◌/◌, ◌%◌, ◌^◌, ◌<◌, Bool, true, false, ◌&&◌, ◌||◌, cond, List, eqb, length, get_or, set}
use Rattle.format.specs.Image.{lift_of, list_of, version_of}
use Rattle.format.specs.Question.{is_zero, refused, returns}
use Rattle.format.specs.Answer.{check}
use Rattle.format.specs.Exact.{Accepted, AcceptedWith}

-- a byte with its bit k, from 0, the lowest, turned over
unfoldable pub flip_bit : ℕ → ℕ → ℕ
flip_bit k byte = cond (is_zero (byte / 2 ^ k % 2)) (byte + 2 ^ k) (byte - 2 ^ k)

-- some bytes with bit k of byte i turned over
unfoldable pub flipped : List ℕ → ℕ → ℕ → List ℕ
flipped img i k = set img i (flip_bit k (get_or img i 0))

-- whether byte i is one of the two of a version 2 image's lift
unfoldable pub is_lift_byte : List ℕ → ℕ → Bool
is_lift_byte img i = eqb (version_of img) 2 && (eqb i 40 || eqb i 41)

-- an accepted image of the same list and another lift
pub record OtherLift (img img' : List ℕ) : Type 0 where
  pub image : AcceptedWith (list_of img) img'
  pub other : lift_of img' ≡ lift_of img → ⊥

-- the statement
pub record FlipRefused : Type 0 where
  -- the checker refuses an accepted image with one bit turned over, except in the two bytes of a version 2 image's lift
  pub elsewhere : (img : List ℕ) (i k : ℕ) → i < length img → k < 8 → Accepted img → is_lift_byte img i ≡ false → (n : ℕ) → check (flipped img i k) ≡ returns n → ⊥
  -- where it gives 35, or an accepted image of the same list and another lift
  pub of_lift : (img : List ℕ) (i k : ℕ) → k < 8 → Accepted img → is_lift_byte img i ≡ true → (check (flipped img i k) ≡ refused 35) ⊎ OtherLift img (flipped img i k)
