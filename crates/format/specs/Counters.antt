-- What T and B of an accepted image count: paper 01's words for them, where the pages are those that the packing rule cuts the trie of the image's
-- own keys into, and not those that the pages' T's mark off. Question 8 asks no T but that of a band's first page; each is exact all the same.
-- The proof is proofs/Counters.antt.
-- Assumes nothing.
use Rattle.std.specs.Prelude.{◌≡◌, List, [], map, ℕ, ◌≤◌, ◌<◌, get_or, take}
use Rattle.format.specs.Seq.{total, up_to}
use Rattle.format.specs.Trie.{on_bits}
use Rattle.format.specs.Image.{keys_of, page_b, page_count, page_levels, page_t}
use Rattle.format.specs.Writer.{pages_of_band, roots_in}
use Rattle.format.specs.Exact.{Accepted}

-- the counters of band b
pub record BandCounters (img : List ℕ) (b : ℕ) : Type 0 where
  -- the pages as read are the pages of the trie
  pub pages : map (page_levels img b) (up_to (page_count img b)) ≡ pages_of_band (keys_of img) b
  -- "T is the count of roots in the earlier pages of the band", of the nodes on their first levels
  pub t_is : (i : ℕ) → i < page_count img b → page_t img b i ≡ total (map roots_in (take i (pages_of_band (keys_of img) b)))
  -- "B is the count of on bits in the fourth levels of the earlier pages of the band"
  pub b_is : (i : ℕ) → i < page_count img b → page_b img b i ≡ total (map (λ page. on_bits (get_or page 3 [])) (take i (pages_of_band (keys_of img) b)))

-- the statement
abbrev pub Counters : Type 0
Counters = (img : List ℕ) → Accepted img → (b : ℕ) → 1 ≤ b → b ≤ 8 → BandCounters img b
