-- The numbers of an image worked out from its page counts and its pages' nodes alone, and the image with these numbers.
-- Assumes nothing.
use Rattle.std.specs.Prelude.{Bool, ℕ, zero, suc, ◌+◌, ◌*◌, ◌%◌, get_or}
use mathlib.Core.List.{List, [], ◌∷◌, ◌++◌, map, flat_map}
use Rattle.std.proofs.lemmas.List.Edits.{sets}
use Rattle.format.specs.Seq.{every, last_below, total, up_to}
use Rattle.format.specs.Trie.{on_bits}
use Rattle.format.specs.Page.{levels_in, two_bytes}
use Rattle.format.specs.Image.{bands, page_count, page_number, page_pairs}
use Rattle.format.specs.Question.{Question, no_room, node_questions, questions_from_9}

-- every question gets a yes
unfoldable pub all_yes : List Question → Bool
all_yes qs = every (λ (q : Question). q.1) qs

-- ---- a page

-- 9 to 12 of a row of pairs as a page of r roots, where the page before has so many nodes: `questions_after` (checker/specs/Paged) of a page's pairs alone
unfoldable pub row_questions : ℕ → List ℕ → ℕ → List Question
row_questions r pairs previous = questions_from_9 r pairs (no_room previous (levels_in 4 r pairs))

-- the roots of a page, from its pairs alone: the number with which 9 to 11 get a yes. There is at most one; 0 where there is none.
unfoldable pub roots_held : List ℕ → ℕ
roots_held pairs = last_below 61 (λ r. all_yes (node_questions r pairs))

-- of page i of band b: its roots, its four levels, and its out-links, the on bits of the fourth
unfoldable pub held_roots : List ℕ → ℕ → ℕ → ℕ
held_roots img b i = roots_held (page_pairs img b i)

unfoldable pub held_levels : List ℕ → ℕ → ℕ → List (List ℕ)
held_levels img b i = levels_in 4 (held_roots img b i) (page_pairs img b i)

unfoldable pub held_links : List ℕ → ℕ → ℕ → ℕ
held_links img b i = on_bits (get_or (held_levels img b i) 3 [])

-- ---- the numbers

-- "T is the count of roots in the earlier pages of the band. B is the count of on bits in the fourth levels of the earlier pages of the band."
unfoldable pub roots_before : List ℕ → ℕ → ℕ → ℕ
roots_before img b i = total (map (held_roots img b) (up_to i))

unfoldable pub links_before : List ℕ → ℕ → ℕ → ℕ
links_before img b i = total (map (held_links img b) (up_to i))

-- the roots of band b, and its out-links
unfoldable pub band_roots : List ℕ → ℕ → ℕ
band_roots img b = roots_before img b (page_count img b)

unfoldable pub band_links : List ℕ → ℕ → ℕ
band_links img b = links_before img b (page_count img b)

-- the header's numbers: 0 is the key count, the out-links of band 8, and b the root count of band b
unfoldable pub header_number : List ℕ → ℕ → ℕ
header_number img zero = band_links img 8
header_number img (suc b) = band_roots img (suc b)

-- each number with its place: the header's at 6, 10, .., 38; T and B at the start of each page
unfoldable pub head_numbers : List ℕ → ℕ → ℕ → List (ℕ × ℕ)
head_numbers img b i = (64 * page_number img b i, roots_before img b i) ∷ (64 * page_number img b i + 2, links_before img b i) ∷ []

unfoldable pub numbers : List ℕ → List (ℕ × ℕ)
numbers img =
    map (λ k. (6 + 4 * k, header_number img k)) (up_to 9)
    ++ flat_map (λ b. flat_map (head_numbers img b) (up_to (page_count img b))) bands

-- ---- the image with these numbers

-- a number of 16 bits put at its place, and some numbers, one after the other
unfoldable pub put_number : List ℕ → ℕ × ℕ → List ℕ
put_number bytes n = sets bytes n.0 (two_bytes (n.1 % 65536))

unfoldable pub put_numbers : List ℕ → List (ℕ × ℕ) → List ℕ
put_numbers bytes [] = bytes
put_numbers bytes (n ∷ ns) = put_numbers (put_number bytes n) ns

unfoldable pub restored : List ℕ → List ℕ
restored img = put_numbers img (numbers img)
