-- How many pages a list can need, and so how long an image can be: paper 02's S-12. Because of it number 16, which asked whether each band's page
-- count fits 16 bits, is unused. The proof is proofs/Bounds.antt.
-- Assumes nothing.
use Rattle.std.specs.Prelude.{◌≡◌, true, List, map, ℕ, ◌^◌, ◌≤◌, ◌<◌, length}
use Rattle.format.specs.Seq.{All, total}
use Rattle.format.specs.Key.{woven}
use Rattle.format.specs.Image.{bands, page_count}
use Rattle.format.specs.Question.{Yes}
use Rattle.format.specs.Writer.{ascending, image_of, pages_of_band, room_question}
use Rattle.format.specs.Exact.{Accepted, WriterAccepts}

-- the pages that the image of a list of keys has in band b
unfoldable pub pages_needed : List ℕ → ℕ → ℕ
pages_needed keys b = length (pages_of_band keys b)

-- the bound on the pages of each band, on the pages of all, and on the bytes of the image
pub record Bounded (pages : ℕ → ℕ) (bytes : ℕ) : Type 0 where
  pub band_1 : pages 1 ≤ 1
  pub band_2 : pages 2 ≤ 1
  pub band_3 : pages 3 ≤ 17
  pub later_bands : (b : ℕ) → 4 ≤ b → b ≤ 8 → pages b ≤ 73
  pub all_bands : total (map pages bands) ≤ 384
  pub size : bytes ≤ 24640

-- the statement: the bound holds of every list and of every accepted image
pub record PageBound : Type 0 where
  -- no list of up to 4,096 strictly ascending keys, of 32 bits each, needs more, for any lift
  pub of_list : (lift : ℕ) (keys : List ℕ) → All (λ key. key < 2 ^ 32) keys → length keys ≤ 4096 → ascending keys ≡ true → Bounded (pages_needed keys) (length (image_of lift keys))
  -- no accepted image has more
  pub of_image : (img : List ℕ) → Accepted img → Bounded (page_count img) (length img)
  -- a buffer of 24,640 bytes has room for the image of any list that the writer accepts: 17 gets a yes
  pub room : (lift : ℕ) (list : List (ℕ × ℕ)) → WriterAccepts list → (buffer : List ℕ) → 24640 ≤ length buffer → Yes (room_question lift (woven list) buffer)
