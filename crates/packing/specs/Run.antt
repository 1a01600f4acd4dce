-- Lists of prefixes: the band above them, its pages, and what a scan counts.
-- Assumes nothing.
use Rattle.std.specs.Prelude.{◌≡◌, true, cond, List, ◌∷◌, ℕ, ◌+◌, ◌-◌, ◌/◌, ◌≤◌, ◌<◌, eqb, leb, length, get_or, take, drop}
use Rattle.format.specs.Page.{node_count}
use Rattle.format.specs.Trie.{parents, levels_over}
use Rattle.format.specs.Writer.{ascending, pages_of, roots_in}
use Rattle.packing.specs.declared.PageRun.{PageRun}
use Rattle.packing.specs.declared.Packing.{Packing}
use Rattle.packing.specs.declared.BandCounts.{BandCounts}

-- the four levels above prefixes, and the prefixes of their roots, which have four bits less
unfoldable pub band_above : List ℕ → List (List ℕ)
band_above prefixes = levels_over 4 prefixes

unfoldable pub roots_above : List ℕ → List ℕ
roots_above prefixes = parents (parents (parents (parents prefixes)))

-- 1 for two numbers that differ, else 0
unfoldable pub differ : ℕ → ℕ → ℕ
differ x y = cond (eqb x y) 0 1

-- the nodes that a prefix adds to the subtrie of the prefix before it
unfoldable pub more_nodes : ℕ → ℕ → ℕ
more_nodes x y = differ (x / 8) (y / 8) + differ (x / 4) (y / 4) + differ (x / 2) (y / 2)

-- ascending prefixes, at most 4,096
pub record Prefixes (prefixes : List ℕ) : Type 0 where
  pub few : length prefixes ≤ 4096
  pub ordered : ascending prefixes ≡ true

-- the packing after a subtrie of so many nodes
unfoldable pub joined : Packing → ℕ → Packing
joined packing size =
    cond (leb (packing.used + size) 240) (record { pages = packing.pages; used = packing.used + size }) (record { pages = packing.pages + 1; used = size })

-- the first page above prefixes: how many of them it has, and its nodes. The next page begins at another root.
pub record PageIs (prefixes : List ℕ) (run : PageRun) : Type 0 where
  pub some : 0 < run.end
  pub within : run.end ≤ length prefixes
  pub fits : run.nodes ≤ 240
  pub nodes_are : run.nodes ≡ node_count (roots_in (band_above (take run.end prefixes))) (band_above (take run.end prefixes))
  pub page : pages_of (band_above prefixes) ≡ band_above (take run.end prefixes) ∷ pages_of (band_above (drop run.end prefixes))
  pub apart : run.end < length prefixes → get_or prefixes (run.end - 1) 0 / 16 ≡ get_or prefixes run.end 0 / 16 → ⊥

-- a band's page count and root count; the first prefixes have become those of its roots, and the others are as they were
pub record BandCounted (prefixes : List ℕ) (counts : BandCounts) (after : List ℕ) : Type 0 where
  pub pages_are : counts.pages ≡ length (pages_of (band_above prefixes))
  pub roots_are : counts.roots ≡ roots_in (band_above prefixes)
  pub roots_few : counts.roots ≤ length prefixes
  pub lifted : take counts.roots after ≡ roots_above prefixes
  pub kept : drop counts.roots after ≡ drop counts.roots prefixes
