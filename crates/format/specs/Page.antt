-- Subtries, pages and their bytes. A band and a page are lists of four levels. A root is a node of a band's first level; a root and all below it in
-- its band is a subtrie.
-- Assumes nothing.
use Rattle.std.specs.Prelude.{ℕ, zero, suc, ◌+◌, ◌*◌, ◌/◌, ◌%◌, ◌<◌, length, get_or, take, drop}
use mathlib.Core.List.{List, [], ◌∷◌, flat_map}
use Rattle.format.specs.Trie.{on_bits}

-- the levels of the first r subtries, and the levels of those after them
unfoldable pub first_subtries : ℕ → List (List ℕ) → List (List ℕ)
first_subtries r [] = []
first_subtries r (ns ∷ levels) = take r ns ∷ first_subtries (on_bits (take r ns)) levels

unfoldable pub later_subtries : ℕ → List (List ℕ) → List (List ℕ)
later_subtries r [] = []
later_subtries r (ns ∷ levels) = drop r ns ∷ later_subtries (on_bits (take r ns)) levels

-- The nodes that levels call for: r in the first, and in each later one as many as the one above has on bits. Question 10 asks whether a page
-- has room for them, so these are not the lengths of the levels read, which are cut off where the page ends.
unfoldable pub node_count : ℕ → List (List ℕ) → ℕ
node_count r [] = 0
node_count r (ns ∷ levels) = r + node_count (on_bits ns) levels

-- n levels read from a row of pairs: r nodes in the first, and in each later one as many as the one above has on bits
unfoldable pub levels_in : ℕ → ℕ → List ℕ → List (List ℕ)
levels_in zero r pairs = []
levels_in (suc n) r pairs = take r pairs ∷ levels_in n (on_bits (take r pairs)) (drop r pairs)

-- the nodes of a page's first l levels: where level l, from 0, starts in the page's row of pairs
abbrev pub offset : ℕ → List (List ℕ) → ℕ
offset zero page = 0
offset (suc l) [] = 0
offset (suc l) (ns ∷ page) = length ns + offset l page

-- the four pairs of a byte, the first in the highest bits
unfoldable pub pairs_of : ℕ → List ℕ
pairs_of byte = byte / 64 ∷ byte / 16 % 4 ∷ byte / 4 % 4 ∷ byte % 4 ∷ []

-- the byte of the first four nodes; n bytes of nodes; 00 after the last
unfoldable pub byte_of : List ℕ → ℕ
byte_of ns = 64 * get_or ns 0 0 + 16 * get_or ns 1 0 + 4 * get_or ns 2 0 + get_or ns 3 0

unfoldable pub node_bytes : ℕ → List ℕ → List ℕ
node_bytes zero ns = []
node_bytes (suc n) ns = byte_of ns ∷ node_bytes n (drop 4 ns)

-- a byte, a number as two bytes, the higher first, and the number that stands at a place
abbrev pub Byte : ℕ → Type 0
Byte x = x < 256

unfoldable pub two_bytes : ℕ → List ℕ
two_bytes n = n / 256 ∷ n % 256 ∷ []

unfoldable pub number_at : List ℕ → ℕ → ℕ
number_at bytes at = 256 * get_or bytes at 0 + get_or bytes (at + 1) 0

-- the 240 pairs of the page at a place: T and B take its first four bytes, and the pairs the other 60
abbrev pub pairs_at : List ℕ → ℕ → List ℕ
pairs_at bytes at = flat_map pairs_of (take 60 (drop (at + 4) bytes))
