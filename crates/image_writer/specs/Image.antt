-- The image's parts as the writer fills them in.
-- Assumes nothing.
use Rattle.std.specs.Prelude.{◌≡◌, ℕ, ◌+◌, ◌*◌, ◌≤◌, length, take, drop}
use mathlib.Core.List.{List, [], ◌∷◌, ◌++◌, map, flat_map}
use Rattle.format.specs.Seq.{total}
use Rattle.format.specs.Writer.{bands_of, band_bytes, band_counts, pages_of}
use Rattle.packing.specs.declared.BandCounts.{BandCounts}
use Rattle.packing.specs.Run.{Prefixes, band_above, roots_above}
use Rattle.packing.specs.Memory.{Free}
use Rattle.image_writer.specs.declared.Plan.{Plan}

-- the counts of bands as the header has them: the page count and the root count of each
unfoldable pub numbers_of : List BandCounts → List ℕ
numbers_of [] = []
numbers_of (band ∷ bands) = band.pages ∷ band.roots ∷ numbers_of bands

-- the page count and the root count of each band, and the pages of all
unfoldable pub counts_of : List ℕ → List ℕ
counts_of keys = flat_map band_counts (bands_of keys)

unfoldable pub pages_in : List ℕ → ℕ
pages_in keys = total (map (λ band. length (pages_of band)) (bands_of keys))

pub record Planned (keys : List ℕ) (plan : Plan) : Type 0 where
  pub counts_are : numbers_of plan.bands ≡ counts_of keys
  pub pages_are : plan.pages ≡ pages_in keys
  pub few : plan.pages ≤ 384

-- a buffer with the bytes of pages in place of those from page `first` on
unfoldable pub pages_from : List ℕ → ℕ → List ℕ → List ℕ
pages_from out first bytes = take (64 * first) out ++ (bytes ++ drop (64 * first + length bytes) out)

-- the bytes of a band's pages, and of all bands'
unfoldable pub bytes_of_band : List (List ℕ) → List ℕ
bytes_of_band band = band_bytes 0 0 (pages_of band)

unfoldable pub bytes_of_bands : List ℕ → List ℕ
bytes_of_bands keys = flat_map bytes_of_band (bands_of keys)

-- a buffer with room for the pages of the band above prefixes, from page `first` on
pub record BandRoom (prefixes out : List ℕ) (first : ℕ) : Type 0 where
  pub listed : Prefixes prefixes
  pub room : 64 * (first + length (pages_of (band_above prefixes))) ≤ length out

-- the band's pages are filled in, and the prefixes of its roots, so many, stand in the first places; the other places are free
pub record BandDone (prefixes out : List ℕ) (first : ℕ) (prefixes' out' : List ℕ) (roots : ℕ) : Type 0 where
  pub bytes : out' ≡ pages_from out first (bytes_of_band (band_above prefixes))
  pub roots_few : roots ≤ length prefixes
  pub memory : Free prefixes prefixes'
  pub lifted : take roots prefixes' ≡ roots_above prefixes

-- a plan, and a buffer with room for the image
pub record ImageRoom (keys out : List ℕ) (plan : Plan) : Type 0 where
  pub listed : Prefixes keys
  pub planned : Planned keys plan
  pub room : 64 * (1 + plan.pages) ≤ length out

-- the pages of all bands are filled in; the keys' places are free
pub record BandsDone (keys out keys' out' : List ℕ) : Type 0 where
  pub bytes : out' ≡ pages_from out 1 (bytes_of_bands keys)
  pub memory : Free keys keys'
