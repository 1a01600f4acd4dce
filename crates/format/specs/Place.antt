-- Where the nodes of a page stand: in the page's row of pairs, in the levels of its band and among the prefixes. Contracts of crates below the jobs cite it.
-- Assumes nothing.
use Rattle.std.specs.Prelude.{◌≡◌, List, [], map, ℕ, ◌+◌, ◌<◌, length, get_or}
use Rattle.format.specs.Seq.{numbers_from, total}
use Rattle.format.specs.Page.{offset}
use Rattle.format.specs.Image.{depth, page_count, page_levels, prefixes_at}

-- how many nodes of level l of band b stand before those of page i
unfoldable pub before : List ℕ → ℕ → ℕ → ℕ → ℕ
before img b l i = total (map (λ k. length (get_or (page_levels img b k) l [])) (numbers_from 0 i))

-- Place p of page i of band b is node n of the band's level l, and its prefix is x.
pub record Reached (img : List ℕ) (b i l p n x : ℕ) : Type 0 where
  pub j : ℕ
  pub in_band : i < page_count img b
  pub in_page : l < 4
  pub inner : j < length (get_or (page_levels img b i) l [])
  pub place : p ≡ offset l (page_levels img b i) + j
  pub index : n ≡ before img b l i + j
  pub prefix : get_or (prefixes_at img (depth b l)) n 0 ≡ x
