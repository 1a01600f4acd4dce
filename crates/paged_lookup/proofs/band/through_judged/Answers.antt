-- `paged_lookup::band::through_judged` meets its contract: at each return the questions before got a yes. Assumes nothing.
use mathlib.Core.Path.{refl, ap, ◌∙◌}
use native.Mathlib.Omega.{arith}
use borrow.Author.Rules.{rules}
use Rattle.std.proofs.lemmas.Result.{err_from_is_err_and}
use Rattle.format.specs.Question.{and_then, refused}
use Rattle.checker.proofs.Pages.{roots_yes, roots_no}
use Rattle.paged_lookup.proofs.Finding.{band_fits, none_found, found}
use Rattle.paged_lookup.proofs.Steps.{step-none, step_nine, page_told, root_in_lem, step_left}
use Rattle.paged_lookup.proofs.band.through_judged.Goals as goal

pub last_page-requires : goal.last_page-requires
last_page-requires c = band_fits c.requires.0 c.page_count-pages.ensures.0

-- where no page has been found,
-- every T of the band is above the root
pub returns-in_default : goal.returns-in_default
returns-in_default c = record { outcome = step-none c.args.image.now c.args.key c.args.band c.args.on c.args.root.0 (none_found c.requires.0 c.page_count-pages.ensures.0 c.in_default.ensures); page_is = tt }

-- where a page has been found, it is in the image
pub overflow_add-page : goal.overflow_add-page
overflow_add-page c = let f = band_fits c.requires.0 c.page_count-pages.ensures.0 in let i = c.in-Some.ensures.in_band in search rules

pub overflow_mul-page : goal.overflow_mul-page
overflow_mul-page c = let f = band_fits c.requires.0 c.page_count-pages.ensures.0 in let i = c.in-Some.ensures.in_band in search rules

pub number-requires : goal.number-requires
number-requires c = omega (arith, band_fits c.requires.0 c.page_count-pages.ensures.0, c.in-Some.ensures.in_band)

pub next_root-next-requires : goal.next_root-next-requires
next_root-next-requires c = (c.in-Some.ensures.in_band, band_fits c.requires.0 c.page_count-pages.ensures.0)

pub returns-in_err-roots : goal.returns-in_err-roots
returns-in_err-roots c =
    let p = err_from_is_err_and c.from_residual.result c.from_residual.ensures.1 in
    let page = found c.requires.0 c.page_count-pages.ensures.0 c.in-Some.ensures refl c.number.ensures.0 c.root_count.ensures.0 c.next_root-next.ensures in
    let no = roots_no _ _ _ c.in_err-roots.ensures in
    rw (p.1, p.2) record { outcome = ap refused no.0 ∙ step_nine _ _ _ _ _ page no.1; page_is = tt }

pub overflow_mul-page-2 : goal.overflow_mul-page-2
overflow_mul-page-2 c = let f = band_fits c.requires.0 c.page_count-pages.ensures.0 in let i = c.in-Some.ensures.in_band in search rules

-- and 9 got a yes, so the root is among the page's
pub overflow_sub-root : goal.overflow_sub-root
overflow_sub-root c =
    let page = found c.requires.0 c.page_count-pages.ensures.0 c.in-Some.ensures refl c.number.ensures.0 c.root_count.ensures.0 c.next_root-next.ensures in
    (root_in_lem page c.requires.1).0

pub through_page-requires : goal.through_page-requires
through_page-requires c =
    let f = band_fits c.requires.0 c.page_count-pages.ensures.0 in
    let i = c.in-Some.ensures.in_band in
    let page = found c.requires.0 c.page_count-pages.ensures.0 c.in-Some.ensures refl c.number.ensures.0 c.root_count.ensures.0 c.next_root-next.ensures in
    let k = roots_yes _ _ c.in_ok-roots.ensures in
    (omega arith, k.some, k.few, omega (arith, root_in_lem page c.requires.1, k.is), omega (arith, c.requires.0.hi))

pub returns-in_err-way : goal.returns-in_err-way
unfolding and_then
returns-in_err-way c =
    let p = err_from_is_err_and c.from_residual-in_err-way.result c.from_residual-in_err-way.ensures.1 in
    let page = found c.requires.0 c.page_count-pages.ensures.0 c.in-Some.ensures refl c.number.ensures.0 c.root_count.ensures.0 c.next_root-next.ensures in
    rw (p.1, p.2) record { outcome = step_left _ _ _ _ _ page (roots_yes _ _ c.in_ok-roots.ensures).is _ _ c.in_err-way.ensures refl; page_is = tt }

pub leave-requires : goal.leave-requires
leave-requires c = (c.requires.0.sized.long, c.requires.0.hi)

pub returns-in_err-leave : goal.returns-in_err-leave
unfolding and_then
returns-in_err-leave c =
    let p = err_from_is_err_and c.from_residual-in_err-leave.result c.from_residual-in_err-leave.ensures.1 in
    let page = found c.requires.0 c.page_count-pages.ensures.0 c.in-Some.ensures refl c.number.ensures.0 c.root_count.ensures.0 c.next_root-next.ensures in
    rw (p.1, p.2) record { outcome = step_left _ _ _ _ _ page (roots_yes _ _ c.in_ok-roots.ensures).is _ _ c.in_ok-way.ensures c.in_err-leave.ensures; page_is = tt }

pub returns : goal.returns
unfolding and_then
returns c =
    let page = found c.requires.0 c.page_count-pages.ensures.0 c.in-Some.ensures refl c.number.ensures.0 c.root_count.ensures.0 c.next_root-next.ensures in
    record {
      outcome = step_left _ _ _ _ _ page (roots_yes _ _ c.in_ok-roots.ensures).is _ _ c.in_ok-way.ensures c.in_ok-leave.ensures;
      page_is = page_told _ c.args.key _ c.args.on _ page;
    }
