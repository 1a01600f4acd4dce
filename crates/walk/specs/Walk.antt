-- What the walk over a band's subtries lists: the members between two keys, written into places one after the other.
-- Assumes nothing.
use Rattle.std.specs.Prelude.{◌≡◌, Bool, true, ◌&&◌, List, [], ◌∷◌, ℕ, suc, ◌+◌, ◌-◌, ◌*◌, ◌^◌, ◌≤◌, ◌<◌, leb, ltb, length, set}
use Rattle.format.specs.Seq.{rank_in, select}
use Rattle.format.specs.Image.{keys_of, prefixes_at}
use Rattle.pages.specs.Page.{Ready}
use Rattle.pages.specs.Prefix.{AtPrefix}
use Rattle.subtries.specs.Subtrie.{level_set}

-- from lo on, below hi
unfoldable pub between : ℕ → ℕ → ℕ → Bool
between lo hi k = leb lo k && ltb k hi

-- of the keys from lo on, below hi, those that pass a test: the members of a rectangle, or every key
unfoldable pub members_between : List ℕ → (ℕ → Bool) → ℕ → ℕ → List ℕ
members_between img f lo hi = select f (select (between lo hi) (keys_of img))

abbrev pub any_key : ℕ → Bool
any_key k = true

-- the first on bit of a set of 16 bits, 0's the highest
pub record FirstOn (set e : ℕ) : Type 0 where
  pub small : e < 16
  pub on : 2 ^ (15 - e) ≤ set
  pub first : set < 2 ^ (16 - e)

-- a buffer after xs was written into its places from d on, as far as it has places
unfoldable pub written : ℕ → List ℕ → List ℕ → List ℕ
written d [] buffer = buffer
written d (x ∷ xs) buffer = written (suc d) xs (set buffer d x)

-- xs was listed from place d on; r is the next place
pub record Listed (xs buffer : List ℕ) (d : ℕ) (after : List ℕ) (r : ℕ) : Type 0 where
  pub count : r ≡ d + length xs
  pub holds : after ≡ written d xs buffer

-- an out-link that leads to prefix x, the first bits of a root of band b; after band 8 it leads to a key
pub record Opening (img : List ℕ) (b link x : ℕ) : Type 0 where
  pub ready : Ready img
  pub from : 1 ≤ b
  pub to : b ≤ 9
  pub short : x < 2 ^ (4 * (b - 1))
  pub at : AtPrefix img (4 * (b - 1)) link x

-- the out-links of the subtrie of prefix x in band b from the ending v on, the next of which is `link`
pub record Walking (img : List ℕ) (b set link x v : ℕ) : Type 0 where
  pub ready : Ready img
  pub from : 1 ≤ b
  pub to : b ≤ 8
  pub short : x < 2 ^ (4 * (b - 1))
  pub set_is : set ≡ level_set img (4 * b) (16 * x) 16
  pub link_is : link ≡ rank_in (prefixes_at img (4 * b)) (16 * x + v)
