-- `image_writer::Plan::used_up` meets its contract. Assumes nothing.
use mathlib.Core.Path.{sym, ◌∙◌}
use borrow.Author.Rules.{rules}
use Rattle.image_writer.specs.Planning.{used_up}
use Rattle.image_writer.proofs.Numbers.{roots_at}
use Rattle.image_writer.proofs.Plan.used_up.Goals as goal

pub returns : goal.returns
unfolding used_up
returns c = c.from.ensures ∙ sym (roots_at c.args.self.now.bands 7 (record { pages = 0; roots = 0 }) (search rules))
