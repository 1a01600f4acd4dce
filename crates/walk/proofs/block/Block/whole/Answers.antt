-- `walk::block::Block::whole` meets its contract. Assumes nothing.
use mathlib.Core.Path.{refl}
use Rattle.format.specs.Key.{gather, holder_of, slot_of}
use Rattle.walk.proofs.block.Block.whole.Goals as goal

pub returns : goal.returns
unfolding gather holder_of slot_of
returns c = (refl, record { holder_is = refl; slot_is = refl })
