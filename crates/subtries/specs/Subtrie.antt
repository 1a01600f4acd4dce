-- A subtrie as it is read: the on bits of a level as a set of bits, the first the highest.
-- Assumes nothing.
use Rattle.std.specs.Prelude.{Bool, true, false, ◌≡◌, List, ℕ, zero, suc, ◌+◌, ◌-◌, ◌*◌, ◌/◌, ◌%◌, ◌^◌, ◌<◌}
use Rattle.format.specs.Seq.{is_in, rank_in}
use Rattle.format.specs.Image.{prefixes_at}
use Rattle.nodes.specs.Words.{ones_before}
use Rattle.reader.specs.Page.{node_of}

-- 1 for yes, 0 for no
unfoldable pub as_bit : Bool → ℕ
as_bit true = 1
as_bit false = 0

-- the numbers below n that pass the test, as bits, 0's the highest
unfoldable pub set_of : (ℕ → Bool) → ℕ → ℕ
set_of f zero = 0
set_of f (suc n) = 2 * set_of f n + as_bit (f n)

-- bit v of a set of w bits
abbrev pub set_bit : ℕ → ℕ → ℕ → ℕ
set_bit set w v = set / 2 ^ (w - 1 - v) % 2

-- of the w prefixes of d bits from `base` on, those that are there
abbrev pub level_set : List ℕ → ℕ → ℕ → ℕ → ℕ
level_set img d base w = set_of (λ v. is_in (base + v) (prefixes_at img d)) w

-- Reading a level: under each on bit of a set of w bits stands the next node of the page, from place p on. The place after v bits, and the on bits that
-- their nodes make.
unfoldable pub place_after : ℕ → ℕ → ℕ → ℕ → ℕ
place_after set w p zero = p
place_after set w p (suc v) = place_after set w p v + set_bit set w v

abbrev pub if_on : ℕ → ℕ → ℕ
if_on zero n = 0
if_on (suc b) n = n

unfoldable pub bits_after : List ℕ → ℕ → ℕ → ℕ → ℕ → ℕ
bits_after page set w p zero = 0
bits_after page set w p (suc v) = 4 * bits_after page set w p v + if_on (set_bit set w v) (node_of page (place_after set w p v))

-- The set of a subtrie that is a single path: its first three nodes have one bit each, which tell where under the fourth level the two bits of its
-- fourth node stand.
unfoldable pub path_set : ℕ → ℕ → ℕ → ℕ → ℕ
path_set one two three four = four * 2 ^ (14 - 2 * (4 * (one % 2) + 2 * (two % 2) + three % 2))

-- the subtrie of prefix x of band b: which of the 16 prefixes that go on from x are there, and the number of the first of them among those of 4 b bits
pub record SubtrieRead (img : List ℕ) (b x set link : ℕ) : Type 0 where
  pub set_is : set ≡ level_set img (4 * b) (16 * x) 16
  pub link_is : link ≡ rank_in (prefixes_at img (4 * b)) (16 * x)

-- from the place of a root, k times to the place of the first child: where level k of the subtrie starts
abbrev pub start_in : List ℕ → List ℕ → ℕ → ℕ → ℕ → ℕ
start_in word before roots first zero = first
start_in word before roots first (suc k) = roots + ones_before word before (start_in word before roots first k)

pub record StartsRight (word before : List ℕ) (roots first second third fourth past : ℕ) : Type 0 where
  pub second_is : second ≡ start_in word before roots first 1
  pub third_is : third ≡ start_in word before roots first 2
  pub fourth_is : fourth ≡ start_in word before roots first 3
  pub past_is : past ≡ start_in word before roots first 4
  pub past_small : past < 65700
