-- `report::put_refusal` meets its contract. Assumes nothing.
use mathlib.Core.Path.{subst}
use mathlib.Core.List.{◌++◌}
use Prim.Native.Nat.{ℕ}
use Rattle.format.specs.Text.{refused_word}
use Rattle.report.specs.Row.{field_of, Put}
use Rattle.report.proofs.Puts.{put_then}
use Rattle.report.proofs.Reports.{put_word}
use Rattle.report.proofs.put_refusal.Goals as goal

pub returns : goal.returns
unfolding refused_word
returns c =
    let f = c.put_field in
    let w = c.put_refused in
    subst (λ (n : ℕ). Put c.args.out.now 0 (refused_word ++ field_of n 10) 14 f.new.out f.result) c.from.ensures
    (put_then c.args.out.now 0 refused_word 8 w.new.out 8 _ 6 _ _ (put_word c.args.out.now w.new.out refused_word w.ensures) f.ensures)
