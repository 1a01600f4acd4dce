-- `zorder::weave_by` meets its contract. Assumes nothing.
use native.Mathlib.Omega.{arith}
use Rattle.format.specs.Key.{key_of}
use Rattle.format.proofs.Keys.{spread_small}
use Rattle.zorder.proofs.weave_by.Goals as goal

pub spread_word-requires : goal.spread_word-requires
spread_word-requires c = c.requires

pub overflow_mul-result : goal.overflow_mul-result
overflow_mul-result c = let a = c.args in omega (arith, spread_small 16 a.holder, spread_small 16 a.slot)

pub spread_word-requires-2 : goal.spread_word-requires-2
spread_word-requires-2 c = c.requires

pub overflow_add-result : goal.overflow_add-result
overflow_add-result c = let a = c.args in omega (arith, spread_small 16 a.holder, spread_small 16 a.slot)

pub returns : goal.returns
unfolding key_of
returns c = omega arith
