-- `zorder::spread_word` meets its contract: two entries of the table, one for each byte. Assumes nothing.
use mathlib.Core.List.{List}
use Prim.Native.Nat.{ℕ, ◌/◌, ◌%◌, ◌<◌}
use native.Mathlib.Omega.{arith}
use lib.ListN.{get_or}
use Rattle.format.proofs.Keys.{spread_bytes, spread_small}
use Rattle.zorder.specs.Table.{IsSpreads}
use Rattle.zorder.proofs.spread_word.Goals as goal

-- an entry is small
entry_small : (table : List ℕ) → IsSpreads table → (b : ℕ) → b < 256 → get_or table b 0 < 65536
entry_small table spreads b h = omega (arith, spreads b h, spread_small 8 b)

pub overflow_cast-result : goal.overflow_cast-result
overflow_cast-result c = let x = c.args.x in omega (arith, entry_small c.args.table.now c.requires (x / 256) (omega arith), entry_small c.args.table.now c.requires (x % 256) (omega arith))

pub overflow_mul-result : goal.overflow_mul-result
overflow_mul-result c = let x = c.args.x in omega (arith, entry_small c.args.table.now c.requires (x / 256) (omega arith), entry_small c.args.table.now c.requires (x % 256) (omega arith))

pub overflow_cast-result-2 : goal.overflow_cast-result-2
overflow_cast-result-2 c = let x = c.args.x in omega (arith, entry_small c.args.table.now c.requires (x / 256) (omega arith), entry_small c.args.table.now c.requires (x % 256) (omega arith))

pub overflow_add-result : goal.overflow_add-result
overflow_add-result c = let x = c.args.x in omega (arith, entry_small c.args.table.now c.requires (x / 256) (omega arith), entry_small c.args.table.now c.requires (x % 256) (omega arith))

pub returns : goal.returns
returns c =
    let x = c.args.x in
    omega (arith, c.requires (x / 256) (omega arith), c.requires (x % 256) (omega arith), spread_bytes x)
