-- `holder::first_ending` meets its contract. Assumes nothing.
use borrow.Author.Rules.{rules}
use Rattle.holder.specs.Below.{first_ending, holder_bits}
use Rattle.holder.proofs.first_ending.Goals as goal

pub returns : goal.returns
unfolding holder_bits first_ending
returns c = search rules
