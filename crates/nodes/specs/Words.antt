-- A page's nodes gathered into words, and what is counted over them.
-- Assumes nothing.
use Rattle.std.specs.Prelude.{◌≡◌, Bool, true, ◌&&◌, cond, List, [], ◌∷◌, map, ℕ, ◌+◌, ◌-◌, ◌*◌, ◌/◌, ◌%◌, ◌^◌, ◌≤◌, eqb, ltb, length, get_or}
use Rattle.std.specs.Int.Bits.{bit_and, bit_or}
use Rattle.std.specs.Int.Count.{ones}
use Rattle.format.specs.Seq.{All, numbers_from, up_to}
use Rattle.format.specs.Page.{Byte}
use Rattle.nodes.specs.declared.Words.{Words}

-- the four bytes, and the eight bytes, from i on as one number, the first the highest
unfoldable pub half_at : List ℕ → ℕ → ℕ
half_at l i = ((get_or l i 0 * 256 + get_or l (i + 1) 0) * 256 + get_or l (i + 2) 0) * 256 + get_or l (i + 3) 0

unfoldable pub word_at : List ℕ → ℕ → ℕ
word_at l i =
    (((half_at l i * 256 + get_or l (i + 4) 0) * 256 + get_or l (i + 5) 0) * 256 + get_or l (i + 6) 0) * 256 + get_or l (i + 7) 0

-- of each word, how many bits are set in the words before it, and a more
unfoldable pub counts_before : ℕ → List ℕ → List ℕ
counts_before a [] = []
counts_before a (w ∷ ws) = a ∷ counts_before (a + ones w) ws

-- the words of the page at a place: the first 16 nodes, then seven times 32, then 0
unfoldable pub words_in : List ℕ → ℕ → List ℕ
words_in bytes at =
    half_at bytes (at + 4)
    ∷ word_at bytes (at + 8)
    ∷ word_at bytes (at + 16)
    ∷ word_at bytes (at + 24)
    ∷ word_at bytes (at + 32)
    ∷ word_at bytes (at + 40)
    ∷ word_at bytes (at + 48)
    ∷ word_at bytes (at + 56)
    ∷ 0
    ∷ []

abbrev pub words_of : List ℕ → ℕ → Words
words_of bytes at = record { word = words_in bytes at; before = counts_before 0 (words_in bytes at) }

-- the on bits of the first n nodes: node n stands at place (n + 16) % 32 of word (n + 16) / 32
unfoldable pub ones_before : List ℕ → List ℕ → ℕ → ℕ
ones_before word before n = get_or before ((n + 16) / 32) 0 + ones (get_or word ((n + 16) / 32) 0 / 2 ^ (64 - 2 * ((n + 16) % 32)))

-- the on bits of the first n nodes and of node n itself
unfoldable pub ones_through : List ℕ → List ℕ → ℕ → ℕ
ones_through word before n = get_or before ((n + 16) / 32) 0 + ones (get_or word ((n + 16) / 32) 0 / 2 ^ (62 - 2 * ((n + 16) % 32)))

-- whether the nodes from n on are all 00: after node 208 word 7 tells, else the on bits before n are compared with all
unfoldable pub rest_empty : List ℕ → List ℕ → ℕ → Bool
rest_empty word before n =
    cond (ltb 208 n)
    (eqb (get_or word 7 0 / 2 ^ (64 - 2 * (n - 208)) * 2 ^ (64 - 2 * (n - 208)) % 2 ^ 64) (get_or word 7 0))
    (eqb (ones_before word before n) (get_or before 8 0))

-- node n
unfoldable pub node_in : List ℕ → ℕ → ℕ
node_in word n = get_or word ((n + 16) / 32) 0 / 2 ^ (62 - 2 * ((n + 16) % 32)) % 4

-- the 240 pairs of a page's words
unfoldable pub pairs_in : List ℕ → List ℕ
pairs_in word = map (node_in word) (up_to 240)

-- words that were gathered from a page of some bytes, with the on bits before each
pub record Gathered (word before : List ℕ) : Type 0 where
  pub bytes : List ℕ
  pub at : ℕ
  pub small : All Byte bytes
  pub fits : at + 64 ≤ length bytes
  pub word_is : word ≡ words_in bytes at
  pub before_is : before ≡ counts_before 0 (words_in bytes at)

-- the low bit of each node of a word, and of each that is not 00
abbrev pub low_bits : ℕ
low_bits = 0x5555_5555_5555_5555

abbrev pub used_nodes : ℕ → ℕ
used_nodes w = bit_and (bit_or w (w / 2)) low_bits

-- whether none of the first n nodes of some words is 00, where n is at least 1
unfoldable pub all_used : List ℕ → ℕ → Bool
all_used [] n = true
all_used (w ∷ ws) n =
    cond (ltb 32 n) (eqb (used_nodes w) low_bits && all_used ws (n - 32)) (eqb (used_nodes (w / 2 ^ (64 - 2 * n))) (low_bits / 2 ^ (64 - 2 * n)))

-- a page's words with the 16 places before its first node taken for nodes 11
unfoldable pub filled_up : List ℕ → List ℕ
filled_up word = bit_or (get_or word 0 0) 0xffff_ffff_0000_0000 ∷ map (λ j. get_or word j 0) (numbers_from 1 8)

-- whether none of the first n nodes of a page's words is 00
unfoldable pub none_empty : List ℕ → ℕ → Bool
none_empty word n = all_used (filled_up word) (n + 16)
