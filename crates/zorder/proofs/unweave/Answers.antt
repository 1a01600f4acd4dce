-- `zorder::unweave` meets its contract. Assumes nothing.
use Rattle.format.specs.Key.{holder_of, slot_of}
use Rattle.zorder.proofs.unweave.Goals as goal

pub returns : goal.returns
unfolding holder_of slot_of
returns c = (c.gather_word.ensures, c.gather_word-2.ensures)
