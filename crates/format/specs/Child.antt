-- From a node to its child on the next level of its page (paper 02, S-5): the steps of source document 000, Algorithm 2.1, in their order, and the statement that they
-- end at paper 01's child. The proof is proofs/Child.antt.
-- A page is the list of its levels. The places of its nodes count from 0, level by level. A node's first bit has side 0 and leads to its left child, its second bit has side 1
-- and leads to its right child.
-- Assumes nothing.
use Rattle.std.specs.Prelude.{◌≡◌, cond, ℕ, zero, suc, ◌+◌, ◌-◌, ◌%◌, ◌≤◌, ◌<◌, eqb, ltb, length, get_or, take}
use mathlib.Core.List.{List, [], ◌∷◌, map, sigma}
use Rattle.format.specs.Seq.{All, numbers_from, select, up_to}
use Rattle.format.specs.Trie.{bit, on_bits}
use Rattle.format.specs.Page.{Byte, levels_in, offset, pairs_at}
use Rattle.format.specs.Image.{band_level, page_count, page_levels}
use Rattle.format.specs.Question.{Yes, node_questions}
use Rattle.format.specs.Exact.{Accepted}

-- ---- the steps

-- the level of the node at place p, the node's number on that level, from 0, and the node
unfoldable pub level_with : List (List ℕ) → ℕ → List ℕ
level_with [] p = []
level_with (ns ∷ page) p = cond (ltb p (length ns)) ns (level_with page (p - length ns))

unfoldable pub number_on : List (List ℕ) → ℕ → ℕ
number_on [] p = p
number_on (ns ∷ page) p = cond (ltb p (length ns)) p (number_on page (p - length ns))

unfoldable pub node_at : List (List ℕ) → ℕ → ℕ
node_at page p = get_or (level_with page p) (number_on page p) 0

-- "out-links so far": its level's on bits in the page through the node itself
unfoldable pub out_links_so_far : List (List ℕ) → ℕ → ℕ
out_links_so_far page p = on_bits (take (suc (number_on page p)) (level_with page p))

-- "one back for a left child with a sibling": the node's second bit leads to the sibling
unfoldable pub step_back : ℕ → ℕ → ℕ
step_back node zero = node % 2
step_back node (suc side) = 0

-- "then on to the level's last node": the nodes after it on its level in the page
unfoldable pub nodes_after : List (List ℕ) → ℕ → ℕ
nodes_after page p = length (level_with page p) - suc (number_on page p)

-- where the steps end: as many places past the level's last node as there are out-links so far, one fewer after the step back
unfoldable pub child_by_steps : List (List ℕ) → ℕ → ℕ → ℕ
child_by_steps page p side = p + nodes_after page p + (out_links_so_far page p - step_back (node_at page p) side)

-- ---- paper 01's child

-- the places at which the nodes of level l, from 0, of a page stand, left to right
unfoldable pub places_on : ℕ → List (List ℕ) → List ℕ
places_on l page = numbers_from (offset l page) (length (get_or page l []))

-- the sides of a node's on bits
unfoldable pub sides_on : ℕ → List ℕ
sides_on node = select (λ side. eqb (bit side node) 1) (0 ∷ 1 ∷ [])

-- the on bits of level l of a page, left to right: the node's place, and the side
unfoldable pub on_bits_on : ℕ → List (List ℕ) → List (ℕ × ℕ)
on_bits_on l page = sigma (places_on l page) (λ p. sides_on (node_at page p))

-- "A band's nodes at one level stand page after page": the page's index in the band, and the place; so do its on bits
unfoldable pub band_places : List ℕ → ℕ → ℕ → List (ℕ × ℕ)
band_places img b l = sigma (up_to (page_count img b)) (λ i. places_on l (page_levels img b i))

unfoldable pub band_on_bits : List ℕ → ℕ → ℕ → List (ℕ × (ℕ × ℕ))
band_on_bits img b l = sigma (up_to (page_count img b)) (λ i. on_bits_on l (page_levels img b i))

-- ---- the statement

-- "On bit n of a level, counted from 0, leads to node n of the next level": the steps from the on bits of a level, one after the other, end where the nodes of the next level
-- stand, one after the other.
pub record ChildSteps : Type 0 where
  -- through a band of an accepted image, from each of its first three levels
  pub in_band : (img : List ℕ) → Accepted img → (b l : ℕ) → 1 ≤ b → b ≤ 8 → l < 3
      → map (λ on. (on.0, child_by_steps (page_levels img b on.0) on.1.0 on.1.1)) (band_on_bits img b l) ≡ band_places img b (suc l)
  -- where the nodes of the band stand that an image's list is read from
  pub nodes : (img : List ℕ) (b l : ℕ) → l < 4 → map (λ at. node_at (page_levels img b at.0) at.1) (band_places img b l) ≡ band_level img b l
  -- through any page, of whatever bytes, with r roots, whose 9 and 10 get a yes
  pub in_page : (bytes : List ℕ) → All Byte bytes → (at r : ℕ) → at + 64 ≤ length bytes → All Yes (take 2 (node_questions r (pairs_at bytes at))) → (l : ℕ) → l < 3
      → map (λ on. child_by_steps (levels_in 4 r (pairs_at bytes at)) on.0 on.1) (on_bits_on l (levels_in 4 r (pairs_at bytes at))) ≡ places_on (suc l) (levels_in 4 r (pairs_at bytes at))
