-- `climb::select::on_bit` meets its contract. Assumes nothing.
use mathlib.Core.Path.{subst}
use Prim.Native.Nat.{ℕ, ◌-◌}
use native.Mathlib.Omega.{arith}
use lib.ListN.{get_or}
use Rattle.climb.specs.Select.{Selected}
use Rattle.climb.proofs.BitPlaces.{none_first, left_few, bit-from, bit_in_lem, bit_side}
use Rattle.climb.proofs.select.on_bit.Goals as goal
use Rattle.climb.proofs.select.on_bit.Goals.{After-select}

pub word_of-j-requires : goal.word_of-j-requires
word_of-j-requires c = (omega (arith, none_first c.args.words.now.word c.requires.0), c.requires.2)

pub select-requires : goal.select-requires
select-requires c =
    let j = c.word_of-j.ensures in
    omega (arith, c.from-passed.ensures, left_few c.args.words.now.word c.requires.0 _ j.1 j.2)

-- the bit in its word
selected : (c : After-select) → let words = c.args.words.now in let j = c.word_of-j.result in
    Selected (get_or words.word j 0) (c.args.number - get_or words.before j 0) c.select.result
selected c =
    let words = c.args.words.now in
    subst (λ (n : ℕ). Selected (get_or words.word c.word_of-j.result 0) (c.args.number - n) c.select.result) c.from-passed.ensures c.select.ensures

pub overflow_sub-result : goal.overflow_sub-result
overflow_sub-result c =
    let j = c.word_of-j.ensures in
    bit-from c.args.words.now.word c.args.words.now.before c.requires.1 j.0 j.1 (selected c)

pub returns : goal.returns
returns c =
    let words = c.args.words.now in
    let j = c.word_of-j.ensures in (
      bit_in_lem words.word words.before c.requires.1 j.0 j.1 (selected c),
      bit_side words.word words.before c.requires.1 j.0 j.1 (selected c),
    )
