-- `paged_lookup::band::leave` meets its contract. Assumes nothing.
use mathlib.Core.Path.{sym, ap, ◌∙◌}
use Rattle.paged_lookup.specs.Paged.{is_below}
use Rattle.paged_lookup.specs.Way.{way_of}
use Rattle.paged_lookup.proofs.Bands.{leave_no, leave_yes}
use Rattle.paged_lookup.proofs.band.leave.Goals as goal

pub returns-then-not-is_below : goal.returns-then-not-is_below
returns-then-not-is_below c =
    sym (leave_no _ _ _ (sym (c.is_below.ensures ∙ ap (λ n. is_below n (way_of c.args.way)) c.links_due.ensures.0) ∙ c.if-not-is_below.true))

pub returns : goal.returns
returns c =
    sym (leave_yes _ _ _ (sym (c.is_below.ensures ∙ ap (λ n. is_below n (way_of c.args.way)) c.links_due.ensures.0) ∙ c.if-not-is_below.false))
