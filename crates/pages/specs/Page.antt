-- A band and a page of an accepted image as the jobs hold them, and what their fields are.
-- Assumes nothing.
use Rattle.std.specs.Prelude.{◌≡◌, List, ℕ, zero, suc, ◌+◌, ◌*◌, ◌/◌, ◌≤◌, ◌<◌}
use Rattle.format.specs.Page.{number_at}
use Rattle.format.specs.Exact.{Accepted}
use Rattle.format.specs.Image.{key_count, next_t, out_link_count, page_b, page_count, page_nodes, page_number, page_roots, page_t, root_count}
use Rattle.nodes.specs.Words.{words_of, ones_before, node_in}
use Rattle.pages.specs.declared.Band.{Band}
use Rattle.pages.specs.declared.Field.{Field}
use Rattle.pages.specs.declared.Field.TheVariants.{T, B}
use Rattle.pages.specs.declared.Page.{Page}
use Rattle.pages.specs.declared.PageHead.{PageHead}

-- an accepted image that has keys
pub record Ready (img : List ℕ) : Type 0 where
  pub accepted : Accepted img
  pub some : 1 ≤ key_count img

-- the fields of a band
pub record BandRead (img : List ℕ) (band : Band) : Type 0 where
  pub from : 1 ≤ band.number
  pub to : band.number ≤ 8
  pub first : band.first ≡ page_number img band.number 0
  pub pages : band.pages ≡ page_count img band.number
  pub roots : band.roots ≡ root_count img band.number

-- the number that page i of band b has f bytes after its start: T for 0, B for 2
abbrev pub head_at : List ℕ → ℕ → ℕ → ℕ → ℕ
head_at img b f i = number_at img (64 * page_number img b i + f)

-- where T and B stand
abbrev pub offset_of : Field → ℕ
offset_of T = 0
offset_of B = 2

-- the first root, or the first out-link, after page i of band b
abbrev pub after_page : List ℕ → ℕ → Field → ℕ → ℕ
after_page img b T i = next_t img b i
after_page img b B i = page_b img b i + out_link_count img b i

-- page i is the last of band b whose number is at or below x
pub record LastPage (img : List ℕ) (b f x i : ℕ) : Type 0 where
  pub in_band : i < page_count img b
  pub at : head_at img b f i ≤ x
  pub after : i + 1 < page_count img b → x < head_at img b f (i + 1)

-- the fields of a page's head
pub record HeadRead (img : List ℕ) (head : PageHead) : Type 0 where
  pub from : 1 ≤ head.band
  pub to : head.band ≤ 8
  pub in_band : head.index < page_count img head.band
  pub number : head.number ≡ page_number img head.band head.index
  pub t : head.t.0 ≡ page_t img head.band head.index
  pub b : head.b.0 ≡ page_b img head.band head.index
  pub roots : head.roots ≡ page_roots img head.band head.index
  pub links : head.links ≡ out_link_count img head.band head.index

-- the fields of a page
pub record PageRead (img : List ℕ) (page : Page) : Type 0 where
  pub from : 1 ≤ page.band
  pub to : page.band ≤ 8
  pub in_band : page.index < page_count img page.band
  pub number : page.number ≡ page_number img page.band page.index
  pub t : page.t.0 ≡ page_t img page.band page.index
  pub b : page.b.0 ≡ page_b img page.band page.index
  pub roots : page.roots ≡ page_roots img page.band page.index
  pub nodes : page.nodes ≡ page_nodes img page.band page.index
  pub words : page.words ≡ words_of img (64 * page.number)

-- the place to which the bit of a side of the node at a place leads, from a page's words and its number of roots
unfoldable pub child_in : List ℕ → List ℕ → ℕ → ℕ → ℕ → ℕ
child_in word before roots place zero = roots + ones_before word before place
child_in word before roots place (suc side) = roots + ones_before word before place + node_in word place / 2
