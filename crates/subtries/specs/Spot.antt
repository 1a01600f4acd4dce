-- A subtrie's nodes of one level, and where a band's reading stands in a page.
-- Assumes nothing.
use mathlib.Core.List.{List, Memᴰ}
use Rattle.std.specs.Prelude.{◌≡◌, ℕ, ◌+◌, ◌-◌, ◌*◌, ◌≤◌, ◌<◌, length, get_or, set}
use Rattle.format.specs.Seq.{rank_in}
use Rattle.format.specs.Image.{page_count, page_number, page_roots, page_t, depth, prefixes_at}
use Rattle.format.specs.Place.{Reached}
use Rattle.subtries.specs.declared.spot.Spot.{Spot}
use Rattle.subtries.specs.declared.spot.TheConstants.{NO_SPOT}

-- a node of level l with prefix y
pub record ReachedTo (img : List ℕ) (b i l y : ℕ) : Type 0 where
  pub p : ℕ
  pub n : ℕ
  pub way : Reached img b i l p n y

-- Place p is the first node of level l of a subtrie: of the nodes whose prefixes are the w from `base` on, which all stand in the page.
pub record LevelStart (img : List ℕ) (b i l w base p : ℕ) : Type 0 where
  pub n : ℕ
  pub y : ℕ
  pub way : Reached img b i l p n y
  pub lower : base ≤ y
  pub upper : y < base + w
  pub first : (z : ℕ) → Memᴰ z (prefixes_at img (depth b l)) → z < y → z < base
  pub all : (z : ℕ) → Memᴰ z (prefixes_at img (depth b l)) → base ≤ z → z < base + w → ReachedTo img b i l z

-- the prefix of root n of band b
abbrev pub root_prefix : List ℕ → ℕ → ℕ → ℕ
root_prefix img b n = get_or (prefixes_at img (4 * (b - 1))) n 0

-- the spot is at a root of a page of band b, with the places where the levels of its subtrie start, and its first out-link
pub record SpotAt (img : List ℕ) (b : ℕ) (spot : Spot) : Type 0 where
  pub i : ℕ
  pub in_band : i < page_count img b
  pub from : page_t img b i ≤ spot.root.0
  pub to : spot.root.0 < spot.end.0
  pub end_is : spot.end.0 ≡ page_t img b i + page_roots img b i
  pub at_is : spot.at ≡ 64 * page_number img b i
  pub start₀ : LevelStart img b i 0 1 (root_prefix img b spot.root.0) spot.first
  pub start₁ : LevelStart img b i 1 2 (2 * root_prefix img b spot.root.0) spot.second
  pub start₂ : LevelStart img b i 2 4 (2 * (2 * root_prefix img b spot.root.0)) spot.third
  pub start₃ : LevelStart img b i 3 8 (2 * (2 * (2 * root_prefix img b spot.root.0))) spot.fourth
  pub link_is : spot.link.0 ≡ rank_in (prefixes_at img (4 * b)) (16 * root_prefix img b spot.root.0)

-- the spot of a band is right, or the band has none: the root is not before the end
abbrev pub Standing : List ℕ → ℕ → Spot → Type 0
Standing img b spot = spot.root.0 < spot.end.0 → SpotAt img b spot

-- the spot of band b, of those of the eight bands
abbrev pub spot_in : List Spot → ℕ → Spot
spot_in l b = get_or l (b - 1) NO_SPOT

-- the root and the end of the spot of band b
abbrev pub root_in : List Spot → ℕ → ℕ
root_in l b = (spot_in l b).root.0

abbrev pub end_in : List Spot → ℕ → ℕ
end_in l b = (spot_in l b).end.0

-- the spot of a band put
abbrev pub with_spot : List Spot → ℕ → Spot → List Spot
with_spot l b spot = set l (b - 1) spot

-- each band's spot is right, or it has none
pub record Spots (img : List ℕ) (spots : List Spot) : Type 0 where
  pub long : length spots ≡ 8
  pub each : (b : ℕ) → 1 ≤ b → b ≤ 8 → Standing img b (spot_in spots b)
