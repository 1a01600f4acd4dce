-- `paged_lookup::band::through_accepted` meets its contract. Assumes nothing.
use mathlib.Core.Path.{ap, ◌∙◌}
use native.Mathlib.Omega.{arith}
use Rattle.std.proofs.lemmas.Result.{err_from_is_err_and}
use Rattle.format.specs.Image.{page_number, root_count}
use Rattle.format.specs.Question.{and_then}
use Rattle.paged_lookup.proofs.Steps.{head_told, step_head}
use Rattle.paged_lookup.proofs.band.through_accepted.Goals as goal

pub read-requires : goal.read-requires
unfolding page_number
read-requires c = let p = c.requires in (p.0, p.1.lo, p.1.hi, omega (arith, p.1.first_is))

pub head_of_root-head-requires : goal.head_of_root-head-requires
head_of_root-head-requires c =
    let p = c.requires in
    let b = c.read.ensures in
    (p.0, b.0, omega (arith, p.2, ap (root_count c.args.image.now) b.1))

pub through_accepted_page-way-requires : goal.through_accepted_page-way-requires
through_accepted_page-way-requires c = let h = c.head_of_root-head.ensures in (c.requires.0, h.0, h.2, h.3)

pub leave-requires : goal.leave-requires
leave-requires c = let p = c.requires in (p.1.sized.long, p.1.hi)

pub returns-in_err-leave : goal.returns-in_err-leave
unfolding and_then
returns-in_err-leave c =
    let h = c.head_of_root-head.ensures in
    let q = c.requires in
    let p = err_from_is_err_and c.from_residual.result c.from_residual.ensures.1 in
    rw (p.1, p.2) record {
      outcome = step_head q.0 h.0 (h.1 ∙ c.read.ensures.1) h.2 h.3 q.2 _ _ _ _ c.through_accepted_page-way.ensures c.in_err-leave.ensures;
      page_is = tt;
    }

pub returns : goal.returns
unfolding and_then
returns c =
    let h = c.head_of_root-head.ensures in
    let q = c.requires in
    let e = h.1 ∙ c.read.ensures.1 in
    record {
      outcome = step_head q.0 h.0 e h.2 h.3 q.2 _ _ _ _ c.through_accepted_page-way.ensures c.in_ok-leave.ensures;
      page_is = head_told q.0 h.0 e h.2 h.3 q.2 c.args.key c.args.on;
    }
