-- `header::all_zero` meets its contract. Assumes nothing.
use mathlib.Core.Path.{◌∙◌}
use borrow.Author.Rules.{rules}
use borrow.Author.Tests.{tests}
use Rattle.std.proofs.lemmas.Iterator.{YieldsList-from_slice}
use Rattle.std.proofs.lemmas.Iterator.Search.{all_from_yields_List}
use Rattle.format.specs.Question.{is_zero}
use Rattle.header.proofs.Turns.{all_is_every}
use Rattle.header.proofs.all_zero.Goals as goal

pub returns : goal.returns
unfolding is_zero
returns c =
    all_from_yields_List is_zero _ _ _ c.all.ensures.ran (YieldsList-from_slice c.args.bytes.now cc) (λ x b q k. search (rules, tests))
    ∙ all_is_every is_zero c.args.bytes.now
