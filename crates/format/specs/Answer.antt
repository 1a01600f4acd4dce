-- What each job on an image returns, and what it leaves in the lent buffers.
-- Assumes nothing.
use Rattle.std.specs.Prelude.{ℕ, ◌-◌, ◌*◌, ◌/◌, ◌^◌, Bool, ◌&&◌, cond, List, [], ◌∷◌, ◌++◌, map, leb, ltb, length, get_or}
use Rattle.format.specs.declared.Range.{Range}
use Rattle.format.specs.declared.Rectangle.{Rectangle}
use Rattle.format.specs.Seq.{select, is_in, rank_in}
use Rattle.format.specs.Key.{key_of, holder_of, slot_of}
use Rattle.format.specs.Image.{bands, key_count, lift_of, page_number, page_with, prefixes_at, keys_of, list_of}
use Rattle.format.specs.Question.{Question, Outcome, settle, filled, image_questions}

-- ---- the checker: 1 to 13, with 35

unfoldable pub check : List ℕ → Outcome ℕ
check img = settle (image_questions img) (key_count img)

-- the lift of an accepted image, 0 in version 1: beyond the papers
unfoldable pub lift : List ℕ → Outcome ℕ
lift img = settle (image_questions img) (lift_of img)

-- ---- lookup: the rank and the eight page numbers on the key's path, or absent with the number of listed admissions that have a smaller key

pub data LookupAnswer : Type 0 where
  listed : ℕ → List ℕ → LookupAnswer
  absent : ℕ → LookupAnswer

-- the number of the key's root in band b: the rank of the key's first bits among the prefixes at the band's first level
unfoldable pub root_of : List ℕ → ℕ → ℕ → ℕ
root_of img key b = rank_in (prefixes_at img (4 * (b - 1))) (key / 2 ^ (36 - 4 * b))

-- the number of the page that holds the key's root in band b
unfoldable pub page_of : List ℕ → ℕ → ℕ → ℕ
page_of img key b = page_number img b (page_with img b (root_of img key b))

unfoldable pub lookup_answer : List ℕ → ℕ → LookupAnswer
lookup_answer img key =
    let smaller = rank_in (keys_of img) key in
    cond (is_in key (keys_of img)) (listed smaller (map (page_of img key) bands)) (absent smaller)

unfoldable pub lookup : List ℕ → ℕ → ℕ → Outcome LookupAnswer
lookup img holder slot = settle (image_questions img) (lookup_answer img (key_of holder slot))

-- ---- rectangles: 18, and for a listing 19

-- whether a number lies in a range, ends included
unfoldable pub is_within : Range → ℕ → Bool
is_within range n = leb range.low n && leb n range.high

-- whether a rectangle has an admission, and whether it has a key's
unfoldable pub contains : Rectangle → ℕ → ℕ → Bool
contains rectangle holder slot = is_within rectangle.holders holder && is_within rectangle.slots slot

unfoldable pub inside : Rectangle → ℕ → Bool
inside rectangle key = contains rectangle (holder_of key) (slot_of key)

-- the keys of paper 01's "members": the listed admissions inside, in ascending order
unfoldable pub member_keys : List ℕ → Rectangle → List ℕ
member_keys img rectangle = select (inside rectangle) (keys_of img)

unfoldable pub rectangle_question : Rectangle → Question
rectangle_question rectangle =
    (18, leb rectangle.holders.low rectangle.holders.high && leb rectangle.slots.low rectangle.slots.high)

unfoldable pub places_question : List ℕ → Rectangle → List ℕ → Question
places_question img rectangle buffer = (19, leb (length (member_keys img rectangle)) (length buffer))

unfoldable pub count : List ℕ → Rectangle → Outcome ℕ
count img rectangle = settle (image_questions img ++ rectangle_question rectangle ∷ []) (length (member_keys img rectangle))

unfoldable pub listing : List ℕ → Rectangle → List ℕ → Outcome ℕ
listing img rectangle buffer =
    settle (image_questions img ++ rectangle_question rectangle ∷ places_question img rectangle buffer ∷ []) (length (member_keys img rectangle))

unfoldable pub buffer_after_listing : List ℕ → Rectangle → List ℕ → List ℕ
buffer_after_listing img rectangle buffer = filled (listing img rectangle buffer) (member_keys img rectangle) buffer

-- ---- finding by rank: 20

unfoldable pub find : List ℕ → ℕ → Outcome (ℕ × ℕ)
find img rank = settle (image_questions img ++ (20, ltb rank (key_count img)) ∷ []) (get_or (list_of img) rank (0, 0))
