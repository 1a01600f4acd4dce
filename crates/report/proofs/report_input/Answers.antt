-- `report::report_input` meets its contract. Assumes nothing.
use mathlib.Core.Path.{◌≡◌, sym, subst}
use mathlib.Core.List.{List}
use Prim.Native.Nat.{ℕ}
use lib.Seq.{take_all}
use Rattle.report.specs.Outcomes.{Reported}
use Rattle.report.proofs.report_input.Goals as goal

of_same : {image image' before after : List ℕ} {size : ℕ} → image ≡ image' → Reported image before after size → Reported image' before after size
of_same {before = before} {after = after} {size = size} e p = subst (λ (l : List ℕ). Reported l before after size) e p

-- all places of the array
pub returns-then-all-n : goal.returns-then-all-n
returns-then-all-n c = of_same (sym (take_all c.args.n c.args.input.now c.if-all-n.true)) c.report.ensures
