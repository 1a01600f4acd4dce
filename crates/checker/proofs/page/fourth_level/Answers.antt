-- `checker::page::fourth_level` meets its contract. Assumes nothing.
use mathlib.Core.Path.{ap, ◌∙◌}
use Prim.Native.Nat.{◌+◌}
use Rattle.nodes.specs.Words.{ones_before}
use Rattle.checker.proofs.page.fourth_level.Goals as goal

pub returns : goal.returns
returns c = ap (c.args.roots +◌) (c.on_bits_before.ensures.0 ∙ ap (ones_before c.args.words.now.word c.args.words.now.before) c.requires.1)
