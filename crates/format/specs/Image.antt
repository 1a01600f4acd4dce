-- What an image says, read from its bytes. Bands are counted from 1, the pages of a band from 0, the pages of the image from 1.
-- Assumes nothing.
use Rattle.std.specs.Prelude.{ℕ, ◌+◌, ◌-◌, ◌*◌, cond, eqb, leb, ltb, get_or, take}
use mathlib.Core.List.{List, [], ◌∷◌, map, flat_map}
use Rattle.format.specs.Seq.{numbers_from, up_to, total, last_below}
use Rattle.format.specs.Key.{unwoven}
use Rattle.format.specs.Trie.{on_bits, descend}
use Rattle.format.specs.Page.{levels_in, node_count, number_at, pairs_at}

-- the eight bands
unfoldable pub bands : List ℕ
bands = numbers_from 1 8

-- the header's version, and the lift that the image is for: 0 in version 1, else the number at bytes 40 and 41
unfoldable pub version_of : List ℕ → ℕ
version_of img = number_at img 3

unfoldable pub lift_of : List ℕ → ℕ
lift_of img = cond (eqb (version_of img) 1) 0 (number_at img 40)

-- the header's key count, and a band's page count and root count
unfoldable pub key_count : List ℕ → ℕ
key_count img = number_at img 6

unfoldable pub page_count : List ℕ → ℕ → ℕ
page_count img b = number_at img (4 + 4 * b)

unfoldable pub root_count : List ℕ → ℕ → ℕ
root_count img b = number_at img (6 + 4 * b)

-- the number of pages of the bands before b, and the number in the image of page i of band b, which is also its place in units of 64 bytes
unfoldable pub pages_before : List ℕ → ℕ → ℕ
pages_before img b = total (map (page_count img) (numbers_from 1 (b - 1)))

unfoldable pub page_number : List ℕ → ℕ → ℕ → ℕ
page_number img b i = 1 + pages_before img b + i

-- paper 01's "T" and "B" as page i of band b states them, and the page's 240 pairs of bits
unfoldable pub page_t : List ℕ → ℕ → ℕ → ℕ
page_t img b i = number_at img (64 * page_number img b i)

unfoldable pub page_b : List ℕ → ℕ → ℕ → ℕ
page_b img b i = number_at img (64 * page_number img b i + 2)

unfoldable pub page_pairs : List ℕ → ℕ → ℕ → List ℕ
page_pairs img b i = pairs_at img (64 * page_number img b i)

-- the page's number of roots, as question 9 says: the next T of the band, or for the last page the band's root count, minus this T
unfoldable pub next_t : List ℕ → ℕ → ℕ → ℕ
next_t img b i = cond (ltb (i + 1) (page_count img b)) (page_t img b (i + 1)) (root_count img b)

unfoldable pub page_roots : List ℕ → ℕ → ℕ → ℕ
page_roots img b i = next_t img b i - page_t img b i

-- the page of band b that a root's number leads to: the last whose T is at or below it
unfoldable pub page_with : List ℕ → ℕ → ℕ → ℕ
page_with img b root = last_below (page_count img b) (λ i. leb (page_t img b i) root)

-- the page's four levels, the nodes they call for, and the on bits of the fourth: the page's out-links
unfoldable pub page_levels : List ℕ → ℕ → ℕ → List (List ℕ)
page_levels img b i = levels_in 4 (page_roots img b i) (page_pairs img b i)

unfoldable pub page_nodes : List ℕ → ℕ → ℕ → ℕ
page_nodes img b i = node_count (page_roots img b i) (page_levels img b i)

unfoldable pub out_link_count : List ℕ → ℕ → ℕ → ℕ
out_link_count img b i = on_bits (get_or (page_levels img b i) 3 [])

-- level l of band b, from 0, page after page; the band's four levels; the 32 levels of the image
unfoldable pub band_level : List ℕ → ℕ → ℕ → List ℕ
band_level img b l = flat_map (λ i. get_or (page_levels img b i) l []) (up_to (page_count img b))

unfoldable pub band_levels : List ℕ → ℕ → List (List ℕ)
band_levels img b = map (band_level img b) (up_to 4)

unfoldable pub image_levels : List ℕ → List (List ℕ)
image_levels img = flat_map (band_levels img) bands

-- level l, from 0, of band b
abbrev pub depth : ℕ → ℕ → ℕ
depth b l = 4 * (b - 1) + l

-- the prefixes that the ways from level 1 down through d levels spell, in the order of level d's on bits
unfoldable pub prefixes_at : List ℕ → ℕ → List ℕ
prefixes_at img d = descend (0 ∷ []) (take d (image_levels img))

-- paper 01's "list" of an image: the keys that the ways down to level 32's on bits spell, in the order of these, and the admissions
unfoldable pub keys_of : List ℕ → List ℕ
keys_of img = prefixes_at img 32

unfoldable pub list_of : List ℕ → List (ℕ × ℕ)
list_of img = unwoven (keys_of img)
