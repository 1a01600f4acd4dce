-- What the listing program prints, as bytes: 48 is the digit 0, 32 a space, 10 a line feed.
-- Assumes nothing.
use Rattle.std.specs.Prelude.{ℕ, zero, suc, ◌+◌, ◌/◌, ◌%◌, cond, List, [], ◌∷◌, ◌++◌, leb, ltb, length}
use Rattle.format.specs.Key.{holder_of, slot_of}
use Rattle.format.specs.Image.{keys_of}
use Rattle.format.specs.Question.{Outcome, refused, returns}
use Rattle.format.specs.Answer.{check}

-- a number of at most d + 1 decimal digits, without leading zeros
unfoldable pub digits : ℕ → ℕ → List ℕ
digits zero n = (48 + n) ∷ []
digits (suc d) n = cond (ltb n 10) ((48 + n) ∷ []) (digits d (n / 10) ++ (48 + n % 10) ∷ [])

-- a number below 100,000: no holder, slot, rank, key count or refusal is larger
unfoldable pub decimal : ℕ → List ℕ
decimal n = digits 4 n

-- the words `admissions ` and `refused `, each with its space
unfoldable pub admissions_word : List ℕ
admissions_word = 97 ∷ 100 ∷ 109 ∷ 105 ∷ 115 ∷ 115 ∷ 105 ∷ 111 ∷ 110 ∷ 115 ∷ 32 ∷ []

unfoldable pub refused_word : List ℕ
refused_word = 114 ∷ 101 ∷ 102 ∷ 117 ∷ 115 ∷ 101 ∷ 100 ∷ 32 ∷ []

-- a line for each key: holder, slot and rank; the first key's rank is r
unfoldable pub rows : ℕ → List ℕ → List ℕ
rows r [] = []
rows r (key ∷ keys) = decimal (holder_of key) ++ 32 ∷ decimal (slot_of key) ++ 32 ∷ decimal r ++ 10 ∷ rows (suc r) keys

-- the output for an image and the checker's outcome
unfoldable pub report : List ℕ → Outcome ℕ → List ℕ
report img (refused n) = refused_word ++ decimal n ++ 10 ∷ []
report img (returns n) = admissions_word ++ decimal n ++ 10 ∷ rows 0 (keys_of img)

-- the output for the input: longer input than 65,536 bytes is refused with 6, whatever else is wrong
unfoldable pub printed : List ℕ → List ℕ
printed img = cond (leb (length img) 65536) (report img (check img)) (report img (refused 6))
