-- `subtries::spot::Spot::of_root` meets its contract. Assumes nothing.
use mathlib.Core.Path.{refl}
use native.Mathlib.Omega.{arith}
use Rattle.pages.proofs.Pages.{b_small, t_small, page_number_small}
use Rattle.pages.proofs.PageWords.{page_small}
use Rattle.subtries.proofs.Subtries.{starts_fit, link_is}
use Rattle.subtries.proofs.Spots.{spot_made}
use Rattle.subtries.proofs.spot.Spot.of_root.Goals as goal

pub level_starts-start-requires : goal.level_starts-start-requires
level_starts-start-requires c =
    let e = c.page_near-page.ensures in
    starts_fit c.requires.0 e.0 e.2 e.3

pub overflow_add-result : goal.overflow_add-result
overflow_add-result c =
    let d = c.page_near-page.ensures.0 in
    let r = c.requires.0 in
    omega (arith, d.t, t_small r c.page_near-page.result.band c.page_near-page.result.index, page_small r d)

pub overflow_mul-result : goal.overflow_mul-result
overflow_mul-result c =
    let d = c.page_near-page.ensures.0 in
    let r = c.requires.0 in
    omega (arith, d.number, page_number_small r c.page_near-page.result.band c.page_near-page.result.index d.from d.to d.in_band)

pub overflow_sub-result : goal.overflow_sub-result
overflow_sub-result c =
    let e = c.page_near-page.ensures in
    (link_is c.requires.0 e.0 e.2 e.3 c.level_starts-start.ensures.past_is).0

pub overflow_add-result-2 : goal.overflow_add-result-2
overflow_add-result-2 c =
    omega (arith, c.level_starts-start.ensures.past_small, c.page_near-page.ensures.0.b, b_small c.requires.0 c.page_near-page.result.band c.page_near-page.result.index)

pub returns : goal.returns
returns c =
    let e = c.page_near-page.ensures in
    (spot_made c.requires.0 e.0 e.2 e.3 c.level_starts-start.ensures e.1 refl refl refl refl refl refl refl refl, refl)
