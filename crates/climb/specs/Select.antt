-- What the search for an on bit finds, in a part of a word, in a word and in a page.
-- Assumes nothing.
use Rattle.std.specs.Prelude.{◌≡◌, List, ℕ, ◌+◌, ◌-◌, ◌/◌, ◌%◌, ◌^◌, ◌≤◌, ◌<◌}
use Rattle.std.specs.Int.Count.{ones}
use Rattle.nodes.specs.Words.{node_in}
use Rattle.pages.specs.Page.{child_in}
use Rattle.format.specs.Trie.{bit}

-- of a part that starts at place `low`, with `upper` on bits in its upper half of `width` bits: the half that has on bit `left`
pub record Halved (upper width low left low' left' : ℕ) : Type 0 where
  pub in_upper : left < upper → (low' ≡ low + width) × (left' ≡ left)
  pub in_lower : upper ≤ left → (low' ≡ low) × (left' ≡ left - upper)

-- the bit at place r of a word is on, and n on bits stand above it
pub record Selected (w n r : ℕ) : Type 0 where
  pub within : r < 64
  pub on : w / 2 ^ r % 2 ≡ 1
  pub above : ones (w / 2 ^ (r + 1)) ≡ n

-- on bit s of a page is the bit of side t of the node at place p
pub record SideOf (word before : List ℕ) (p s t : ℕ) : Type 0 where
  pub small : t ≤ 1
  pub on : 1 ≤ bit t (node_in word p)
  pub number : child_in word before 0 p t ≡ s
