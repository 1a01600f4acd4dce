-- The largest record of a holder's keys below an out-link, whose number tells its prefix, and below a pair of endings.
-- Assumes nothing.
use Rattle.std.specs.Prelude.{◌≡◌, List, ℕ, zero, suc, ◌+◌, ◌-◌, ◌*◌, ◌/◌, ◌%◌, ◌^◌, ◌<◌, max}
use Rattle.std.specs.Int.Count.{ones}
use Rattle.format.specs.Key.{holder_of}
use Rattle.format.specs.Scan.{is_holders, largest_record}
use Rattle.subtries.specs.Spot.{root_prefix}
use Rattle.walk.specs.Walk.{Opening, members_between}
use Rattle.holder.specs.declared.Pair.{Pair}

-- the largest record of the holder's keys that start with the prefix of root `root` of band `number`; crossing keeps the number, so it is the out-link's
-- too; out of band 8, where `number` is 9, the prefix is a key
unfoldable pub below_record : List ℕ → List ℕ → ℕ → ℕ → ℕ → ℕ
below_record img records holder number root =
    largest_record img records
    (members_between img (is_holders holder) (root_prefix img number root * 2 ^ (36 - 4 * number)) ((root_prefix img number root + 1) * 2 ^ (36 - 4 * number)))

-- the same below a pair of endings, by its two bits; `link` is the first out-link that is there
unfoldable pub pair_record : List ℕ → List ℕ → ℕ → ℕ → ℕ → ℕ → ℕ
pair_record img records holder number zero link = 0
pair_record img records holder number (suc zero) link = below_record img records holder number link
pair_record img records holder number (suc (suc zero)) link = below_record img records holder number link
pair_record img records holder number (suc (suc (suc n))) link = max (below_record img records holder number link) (below_record img records holder number (link + 1))

-- the root is there, and the holder's bits of its prefix are the first bits of `holder`; `root` and `number` are as above
pub record HasBits (img : List ℕ) (holder number root : ℕ) : Type 0 where
  pub opening : Opening img number root (root_prefix img number root)
  pub bits : holder_of (root_prefix img number root) ≡ holder / 2 ^ (18 - 2 * number)

-- the same of each out-link of a pair that is there
pub record PairHasBits (img : List ℕ) (holder number on link : ℕ) : Type 0 where
  pub small : on < 4
  pub few : link < 65536
  pub first : (on ≡ 0 → ⊥) → HasBits img holder number link
  pub second : on ≡ 3 → HasBits img holder number (link + 1)

-- the two bits of `holder` that band `number` reads
unfoldable pub holder_bits : ℕ → ℕ → ℕ
holder_bits holder number = holder / 2 ^ (16 - 2 * number) % 4

-- the first ending that has them
unfoldable pub first_ending : ℕ → ℕ → ℕ
first_ending holder number = 8 * (holder_bits holder number / 2) + 2 * (holder_bits holder number % 2)

-- the pair of `ending` and the one after it, of a subtrie with that set and that first out-link
pub record PairRead (set first ending : ℕ) (pair : Pair) : Type 0 where
  pub on_is : pair.on ≡ set / 2 ^ (14 - ending) % 4
  pub link_is : pair.link.0 ≡ first + ones (set / 2 ^ (16 - ending))
