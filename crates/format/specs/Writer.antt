-- The image of a list of keys, and the writer's job.
-- Assumes nothing.
use Rattle.std.specs.Prelude.{ℕ, zero, suc, ◌+◌, ◌-◌, Bool, true, false, ◌&&◌, leb, ltb, length, get_or, take, drop}
use mathlib.Core.List.{List, [], ◌∷◌, ◌++◌, flat_map, flatten}
use Rattle.format.specs.Trie.{levels_of, on_bits}
use Rattle.format.specs.Page.{first_subtries, later_subtries, node_count, node_bytes, two_bytes}
use Rattle.format.specs.Header.{header}
use Rattle.format.specs.Key.{woven}
use Rattle.format.specs.Question.{Question, Outcome, settle, filled, is_lift}

-- ---- bands, subtries and pages

-- levels in n bands of four
unfoldable pub bands_in : ℕ → List (List ℕ) → List (List (List ℕ))
bands_in zero levels = []
bands_in (suc n) levels = take 4 levels ∷ bands_in n (drop 4 levels)

-- the eight bands of a list of keys
unfoldable pub bands_of : List ℕ → List (List (List ℕ))
bands_of keys = bands_in 8 (levels_of keys)

-- the roots of a band or a page
unfoldable pub roots_in : List (List ℕ) → ℕ
roots_in band = length (get_or band 0 [])

-- the node counts of the first n subtries of a band
unfoldable pub subtrie_sizes : ℕ → List (List ℕ) → List ℕ
subtrie_sizes zero band = []
subtrie_sizes (suc n) band = node_count 1 (first_subtries 1 band) ∷ subtrie_sizes n (later_subtries 1 band)

-- How many subtries go on each page: n subtries with used nodes are on the open page, and sizes are the node counts of those to come.
-- The next subtrie joins the open page if the page then has at most 240 nodes, else it starts a new page.
unfoldable pub pack : ℕ → ℕ → List ℕ → List ℕ
pack n used [] = n ∷ []
pack n used (size ∷ sizes) = elim (leb (used + size) 240) [ true ↦ pack (n + 1) (used + size) sizes | false ↦ n ∷ pack 1 size sizes ]

unfoldable pub subtries_per_page : List ℕ → List ℕ
subtries_per_page [] = []
subtries_per_page (size ∷ sizes) = pack 1 size sizes

-- a band cut into pages of so many subtries
unfoldable pub cut : List ℕ → List (List ℕ) → List (List (List ℕ))
cut [] band = []
cut (n ∷ ns) band = first_subtries n band ∷ cut ns (later_subtries n band)

-- the pages of a band
unfoldable pub pages_of : List (List ℕ) → List (List (List ℕ))
pages_of band = cut (subtries_per_page (subtrie_sizes (roots_in band) band)) band

-- the pages of band b, from 1, of a list of keys
unfoldable pub pages_of_band : List ℕ → ℕ → List (List (List ℕ))
pages_of_band keys b = pages_of (get_or (bands_of keys) (b - 1) [])

-- ---- bytes

-- a page's 64 bytes, and those of a band's pages, where t roots and b out-links of the band stand before them: T and B
unfoldable pub page_bytes : ℕ → ℕ → List (List ℕ) → List ℕ
page_bytes t b page = two_bytes t ++ two_bytes b ++ node_bytes 60 (flatten page)

unfoldable pub band_bytes : ℕ → ℕ → List (List (List ℕ)) → List ℕ
band_bytes t b [] = []
band_bytes t b (page ∷ pages) = page_bytes t b page ++ band_bytes (t + roots_in page) (b + on_bits (get_or page 3 [])) pages

-- a band's page count and root count
unfoldable pub band_counts : List (List ℕ) → List ℕ
band_counts band = length (pages_of band) ∷ roots_in band ∷ []

-- the image of a list of keys for a lift, 0 for version 1
unfoldable pub image_of : ℕ → List ℕ → List ℕ
image_of lift keys = header lift (length keys) (flat_map band_counts (bands_of keys)) ++ flat_map (λ band. band_bytes 0 0 (pages_of band)) (bands_of keys)

-- ---- the job

-- 15: each key is below the next
unfoldable pub ascending : List ℕ → Bool
ascending [] = true
ascending (x ∷ []) = true
ascending (x ∷ y ∷ ys) = ltb x y && ascending (y ∷ ys)

-- 35, of a lift number, and where lift 0, for version 1, may be written too
unfoldable pub lift_question : ℕ → Question
lift_question lift = (35, is_lift lift)

unfoldable pub either_question : ℕ → Question
either_question lift = (35, leb lift 999)

-- 14 and 15, and 17. Number 16 is unused: it asked whether each band's page count fits 16 bits, which it always does (specs/Bounds).
unfoldable pub list_questions : List ℕ → List Question
list_questions keys =
    (14, leb (length keys) 4096)
    ∷ (15, ascending keys)
    ∷ []

unfoldable pub room_question : ℕ → List ℕ → List ℕ → Question
room_question lift keys buffer = (17, leb (length (image_of lift keys)) (length buffer))

-- the writer on keys, whose first question is the one of the lift that it is given: returns the image's length and fills just that many first bytes of the
-- buffer
unfoldable pub write_keys : Question → ℕ → List ℕ → List ℕ → Outcome ℕ
write_keys asked lift keys buffer = settle (asked ∷ list_questions keys ++ room_question lift keys buffer ∷ []) (length (image_of lift keys))

unfoldable pub buffer_after_write_keys : Question → ℕ → List ℕ → List ℕ → List ℕ
buffer_after_write_keys asked lift keys buffer = filled (write_keys asked lift keys buffer) (image_of lift keys) buffer

-- the writer on admissions, which writes version 2
unfoldable pub write : ℕ → List (ℕ × ℕ) → List ℕ → Outcome ℕ
write lift list buffer = write_keys (lift_question lift) lift (woven list) buffer

unfoldable pub buffer_after_write : ℕ → List (ℕ × ℕ) → List ℕ → List ℕ
buffer_after_write lift list buffer = buffer_after_write_keys (lift_question lift) lift (woven list) buffer
