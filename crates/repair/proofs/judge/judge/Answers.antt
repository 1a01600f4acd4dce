-- `repair::judge::judge` meets its contract. The loop's invariant: the header and the bands passed are sound, and their numbers are noted. Assumes nothing.
use mathlib.Core.Path.{ap, sym, ◌∙◌}
use native.Mathlib.Omega.{arith}
use Rattle.nodes.proofs.Numbers.{bytes_of}
use Rattle.repair.proofs.HeaderVerdict.{empty_yes, header_no, judged_no, kept_long, too_many}
use Rattle.repair.proofs.Verdict.{band_ready, bands_next, bands_start, bands-yes, first_few, long, roots_few, roots_wrong}
use Rattle.repair.proofs.judge.judge.Goals as goal

pub returns-then-not-header_kept : goal.returns-then-not-header_kept
returns-then-not-header_kept c = judged_no (bytes_of _ (λ i. (c.type_inv.image i).fits)) (header_no (sym c.if-not-header_kept.ensures))

pub total_pages-all-requires : goal.total_pages-all-requires
total_pages-all-requires c = kept_long _ (bytes_of _ (λ i. (c.type_inv.image i).fits)) (sym c.if-not-header_kept.ensures)

pub returns-then-all-eq0 : goal.returns-then-all-eq0
returns-then-all-eq0 c =
    let p = c.requires in
    empty_yes _ (bytes_of _ (λ i. (c.type_inv.image i).fits)) (sym c.if-not-header_kept.ensures) (sym c.total_pages-all.ensures.0 ∙ c.if-all-eq0.true) p.0 p.1 p.2

pub returns-then-all-gt384 : goal.returns-then-all-gt384
returns-then-all-gt384 c =
    let small = bytes_of _ (λ i. (c.type_inv.image i).fits) in
    judged_no small (too_many _ small (sym c.if-not-header_kept.ensures) _ c.total_pages-all.ensures.0 c.if-all-gt384.true)

pub loop-passed-init : goal.loop-passed-init
loop-passed-init c =
    let p = c.requires in
    bands_start (bytes_of _ (λ i. (c.type_inv.image i).fits)) (sym c.if-not-header_kept.ensures) _ c.total_pages-all.ensures.0 c.if-all-eq0.false c.if-all-gt384.false p.0 p.1 p.2

pub judge_band-requires : goal.judge_band-requires
judge_band-requires c = band_ready c.loop-passed.invariant c.loop-passed-test.true

-- past a band
pub returns-in_default : goal.returns-in_default
returns-in_default c = judged_no c.loop-passed.invariant.small c.in_default.ensures

pub returns-then-sums-due : goal.returns-then-sums-due
returns-then-sums-due c =
    let u = c.loop-passed.invariant in
    judged_no u.small (roots_wrong u c.loop-passed-test.true _ c.in-Some.ensures c.if-sums-due.true)

pub page_count-first-requires : goal.page_count-first-requires
page_count-first-requires c = (long c.loop-passed.invariant, omega (arith, c.loop-passed-test.true))

pub overflow_add-first : goal.overflow_add-first
overflow_add-first c = record { fits = omega (arith, first_few c.loop-passed.invariant c.loop-passed-test.true, c.page_count-first.ensures.0) }

pub loop-passed-preserved : goal.loop-passed-preserved
loop-passed-preserved c =
    bands_next c.loop-passed.invariant c.loop-passed-test.true _ c.in-Some.ensures c.if-sums-due.false _ c.narrow.ensures _ c.page_count-first.ensures.0 _ (ap (λ r. r.0) c.cross-due.ensures)

pub narrow-requires : goal.narrow-requires
narrow-requires c = roots_few c.loop-passed.invariant c.loop-passed-test.true _ c.in-Some.ensures

pub returns : goal.returns
returns c = bands-yes c.loop-passed.invariant c.loop-passed-test.false _ c.narrow-2.ensures
