-- `nodes::Words::rest_empty` meets its contract. Assumes nothing.
use mathlib.Core.Path.{sym, ap₂, ◌∙◌}
use borrow.Author.Tests.{lt-ltb, le-ltb}
use lib.Dec.{eqb}
use Rattle.format.proofs.Checked.{cond_yes, cond_no}
use Rattle.nodes.specs.Words.{rest_empty}
use Rattle.nodes.proofs.Words.rest_empty.Goals as goal

pub returns-then-n-gt208 : goal.returns-then-n-gt208
unfolding rest_empty
returns-then-n-gt208 c = sym (cond_yes _ _ _ (lt-ltb 208 _ c.if-n-gt208.true))

pub returns : goal.returns
unfolding rest_empty
returns c = ap₂ eqb c.on_bits_before.ensures.0 c.on_bits.ensures.0 ∙ sym (cond_no _ _ _ (le-ltb 208 _ c.if-n-gt208.false))
