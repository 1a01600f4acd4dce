-- What the kept bytes of an image must be, so that some accepted image agrees in them: questions 1 to 13, with 35, where the numbers are those worked out.
-- Assumes nothing.
use Rattle.std.specs.Prelude.{◌≡◌, Bool, true, ◌&&◌, List, map, ℕ, zero, suc, ◌+◌, ◌*◌, ◌≤◌, ◌<◌, eqb, leb, length}
use Rattle.format.specs.Seq.{All, total}
use Rattle.format.specs.Page.{node_count}
use Rattle.format.specs.Image.{bands, page_count, page_pairs}
use Rattle.format.specs.Question.{Yes, lift_right, mark_right, version_known, zeros_right}
use Rattle.repair.specs.Numbers.{band_links, band_roots, held_levels, held_roots, row_questions}

-- 1, 2, 3, 5, 35 and 6, which ask of kept bytes alone
unfoldable pub header_kept : List ℕ → Bool
header_kept img =
    leb 64 (length img)
    && mark_right img
    && version_known img
    && zeros_right img
    && lift_right img
    && eqb (length img) (64 * (1 + total (map (page_count img) bands)))

-- the nodes of a page, and of the page before page i of a band: 241 before a band's first, so that 12 gets a yes there
unfoldable pub held_nodes : List ℕ → ℕ → ℕ → ℕ
held_nodes img b i = node_count (held_roots img b i) (held_levels img b i)

abbrev pub nodes_before : List ℕ → ℕ → ℕ → ℕ
nodes_before img b zero = 241
nodes_before img b (suc i) = held_nodes img b i

-- 9 to 12 of page i of band b
abbrev pub SoundPage : List ℕ → ℕ → ℕ → Type 0
SoundPage img b i = All Yes (row_questions (held_roots img b i) (page_pairs img b i) (nodes_before img b i))

-- 7: no pages at all; or one root in band 1, and then 13 gives every other band roots, and so pages
pub data SoundTop (img : List ℕ) : Type 0 where
  no_pages : ((b : ℕ) → 1 ≤ b → b ≤ 8 → page_count img b ≡ 0) → SoundTop img
  one_root : band_roots img 1 ≡ 1 → SoundTop img

pub record Sound (img : List ℕ) : Type 0 where
  pub header : header_kept img ≡ true
  pub top : SoundTop img
  pub page : (b i : ℕ) → 1 ≤ b → b ≤ 8 → i < page_count img b → SoundPage img b i
  -- 13, and 4
  pub link : (b : ℕ) → 1 ≤ b → b ≤ 7 → band_links img b ≡ band_roots img (suc b)
  pub few : band_links img 8 ≤ 4096
