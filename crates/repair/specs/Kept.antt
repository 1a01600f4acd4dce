-- What a repair keeps of an image: its length, and every byte but those of the numbers that are worked out afresh.
-- Assumes nothing.
use Rattle.std.specs.Prelude.{◌≡◌, Bool, true, ◌||◌, cond, List, ℕ, ◌%◌, leb, ltb, length, get_or}

-- Whether byte i is kept. In the header: mark, version and zero byte (0 to 5), page counts (8, 9, 12, 13, ..), lift and zero bytes (40 to 63); in a
-- page: its nodes. Not kept are the key count (6, 7), the root counts (10, 11, 14, 15, ..), and each page's T and B.
unfoldable pub kept : ℕ → Bool
kept i = cond (ltb i 64) (ltb i 6 || leb 40 i || ltb (i % 4) 2) (leb 4 (i % 64))

-- two images of one length agree in all the kept bytes
pub record Agree (a b : List ℕ) : Type 0 where
  pub size : length a ≡ length b
  pub same : (i : ℕ) → kept i ≡ true → get_or a i 0 ≡ get_or b i 0
