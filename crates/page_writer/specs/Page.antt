-- What is stored in a page.
-- Assumes nothing.
use Rattle.std.specs.Prelude.{◌≡◌, true, cond, ℕ, ◌+◌, ◌-◌, ◌*◌, ◌/◌, ◌%◌, ◌^◌, ◌≤◌, ◌<◌, eqb, length, get_or, take, drop, set, replicate}
use mathlib.Core.List.{List, [], ◌++◌, flatten}
use Rattle.format.specs.Seq.{All}
use Rattle.format.specs.Trie.{parents, nodes_over, on_bits, bit_of}
use Rattle.format.specs.Page.{node_bytes, node_count, pairs_at}
use Rattle.format.specs.Writer.{ascending, page_bytes, roots_in}
use Rattle.packing.specs.Run.{band_above, roots_above}
use Rattle.packing.specs.Memory.{FreeFrom}
use Rattle.page_writer.specs.declared.Head.{Head}
use Rattle.page_writer.specs.declared.Level.{Level}

-- the 240 nodes of a page, and a page with other nodes
unfoldable pub nodes_of : List ℕ → List ℕ
nodes_of page = pairs_at page 0

unfoldable pub with_nodes : List ℕ → List ℕ → List ℕ
with_nodes page nodes = take 4 page ++ (node_bytes 60 nodes ++ drop 64 page)

-- the bit that a prefix turns on in node n, as it stands in the node's byte
unfoldable pub bit_in : ℕ → ℕ → ℕ
bit_in n x = bit_of x * 4 ^ (3 - n % 4)

-- leaving node n for the one before it: the page, where n is the first of its byte, and what the byte of the node before holds
unfoldable pub page_left : List ℕ → ℕ → ℕ → List ℕ
page_left page n byte = cond (eqb (n % 4) 0) (set page (4 + n / 4) byte) page

unfoldable pub byte_left : ℕ → ℕ → ℕ
byte_left n byte = cond (eqb (n % 4) 0) 0 byte

-- a page whose nodes before `end` are 00, with room for the level above the prefixes from `from` on
pub record LevelRoom (page prefixes : List ℕ) (from end : ℕ) : Type 0 where
  pub some : from < length prefixes
  pub ordered : ascending (drop from prefixes) ≡ true
  pub room : 64 ≤ length page
  pub within : end ≤ 240
  pub fits : length (nodes_over (drop from prefixes)) ≤ end
  pub empty : take end (nodes_of page) ≡ replicate end 0
  pub small : All (λ n. n ≤ 3) (drop end (nodes_of page))

-- the level stands before `end`, and the parents of the prefixes from `from` on in the last places; the places before those are as they were
pub record LevelDone (page prefixes : List ℕ) (from end : ℕ) (page' prefixes' : List ℕ) (level : Level) : Type 0 where
  pub place : level.node + length (nodes_over (drop from prefixes)) ≡ end
  pub bytes : page' ≡ with_nodes page (replicate level.node 0 ++ (nodes_over (drop from prefixes) ++ drop end (nodes_of page)))
  pub first_is : level.first + length (parents (drop from prefixes)) ≡ length prefixes
  pub kept : take level.first prefixes' ≡ take level.first prefixes
  pub lifted : drop level.first prefixes' ≡ parents (drop from prefixes)

-- the memory after the levels above prefixes: free from the place of the first of their parents on
abbrev pub MemoryAfter : List ℕ → List ℕ → Type 0
MemoryAfter prefixes prefixes' = FreeFrom (length prefixes - length (parents prefixes)) prefixes prefixes'

-- a page without nodes, with room for the four levels above prefixes
pub record LevelsRoom (page prefixes : List ℕ) (count : ℕ) : Type 0 where
  pub some : 0 < length prefixes
  pub ordered : ascending prefixes ≡ true
  pub room : 64 ≤ length page
  pub counted : count ≡ node_count (roots_in (band_above prefixes)) (band_above prefixes)
  pub fits : count ≤ 240
  pub empty : nodes_of page ≡ replicate 240 0

-- the levels are filled in, the fourth from a node on, and the prefixes of the roots stand in the last places
pub record LevelsDone (page prefixes : List ℕ) (count : ℕ) (page' prefixes' : List ℕ) (level : Level) : Type 0 where
  pub bytes : page' ≡ with_nodes page (flatten (band_above prefixes) ++ replicate (240 - count) 0)
  pub place : level.node + length (nodes_over prefixes) ≡ count
  pub memory : MemoryAfter prefixes prefixes'
  pub lifted : drop level.first prefixes' ≡ roots_above prefixes

-- room for the page of a run of prefixes, with T and B
pub record PageRoom (page prefixes : List ℕ) (count : ℕ) (head : Head) : Type 0 where
  pub some : 0 < length prefixes
  pub ordered : ascending prefixes ≡ true
  pub room : 64 ≤ length page
  pub counted : count ≡ node_count (roots_in (band_above prefixes)) (band_above prefixes)
  pub fits : count ≤ 240
  pub t_fits : head.t.0 + length prefixes ≤ 4096
  pub b_fits : head.b.0 + length prefixes ≤ 4096

-- the filled page, the T and B of the next, and the prefixes of the page's roots in the last places
pub record PageDone (page prefixes : List ℕ) (head : Head) (page' prefixes' : List ℕ) (head' : Head) : Type 0 where
  pub bytes : page' ≡ page_bytes head.t.0 head.b.0 (band_above prefixes) ++ drop 64 page
  pub t_next : head'.t.0 ≡ head.t.0 + roots_in (band_above prefixes)
  pub b_next : head'.b.0 ≡ head.b.0 + on_bits (get_or (band_above prefixes) 3 [])
  pub memory : MemoryAfter prefixes prefixes'
  pub lifted : drop (length prefixes - roots_in (band_above prefixes)) prefixes' ≡ roots_above prefixes
