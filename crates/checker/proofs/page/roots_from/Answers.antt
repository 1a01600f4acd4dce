-- `checker::page::roots_from` meets its contract. Assumes nothing.
use mathlib.Core.Path.{◌≡◌, ap, sym, ◌∙◌}
use Prim.Native.Nat.{◌-◌}
use native.Mathlib.Omega.{arith}
use Rattle.format.specs.Question.{one_to, returns as returned}
use Rattle.checker.proofs.Pages.{roots_refused, roots_returned}
use Rattle.checker.proofs.page.roots_from.Goals as goal

pub returns-then-not-one_to : goal.returns-then-not-one_to
returns-then-not-one_to c =
    let e : c.saturating_sub-roots.result ≡ c.args.next.0 - c.args.t.0 = omega arith in
    roots_refused _ _ (ap (one_to 60) (sym e) ∙ sym c.one_to.ensures ∙ c.if-not-one_to.true)

pub returns : goal.returns
returns c =
    let e : c.saturating_sub-roots.result ≡ c.args.next.0 - c.args.t.0 = omega arith in
    ap returned e ∙ roots_returned _ _ (ap (one_to 60) (sym e) ∙ sym c.one_to.ensures ∙ c.if-not-one_to.false)
