-- `report::put_refused` meets its contract. Assumes nothing.
use mathlib.Core.Path.{sym, ap, ◌∙◌}
use mathlib.Core.List.{◌++◌}
use native.Mathlib.Omega.{arith}
use lib.ListN.{drop}
use lib.Seq.{sets-eq}
use Rattle.format.specs.Text.{refused_word}
use Rattle.report.proofs.put_refused.Goals as goal

pub returns : goal.returns
unfolding refused_word
returns c = ap (◌++ drop 8 c.args.out.now) c.copy_from_slice.ensures.after ∙ sym (sets-eq refused_word c.args.out.now 0 (omega arith))
