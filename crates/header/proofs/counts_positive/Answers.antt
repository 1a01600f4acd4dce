-- `header::counts_positive` meets its contract. The loop's invariant: the counts passed are at least 1, so those left decide. Assumes nothing.
use mathlib.Core.Path.{◌≡◌, refl, sym, ap, ◌∙◌}
use Prim.Native.Nat.{ℕ, ◌-◌}
use native.Mathlib.Omega.{arith}
use Rattle.format.specs.Seq.{every, numbers_from}
use Rattle.header.specs.Counts.{counts_positive}
use Rattle.header.proofs.Asked.{positive_no, positive_next, few_pages, few_roots, some_counts}
use Rattle.header.proofs.counts_positive.Goals as goal

pub loop-band-init : goal.loop-band-init
loop-band-init c = (omega arith, refl)

pub returns-then-page_count-lt1 : goal.returns-then-page_count-lt1
returns-then-page_count-lt1 c =
    positive_no _ _ (omega arith) c.loop-band.invariant.1 (few_pages _ _ _ c.page_count.ensures.0 c.if-page_count-lt1.true)

pub returns-then-root_count-lt1 : goal.returns-then-root_count-lt1
returns-then-root_count-lt1 c =
    positive_no _ _ (omega arith) c.loop-band.invariant.1 (few_roots _ _ _ c.page_count.ensures.0 c.if-page_count-lt1.false _ c.root_count.ensures.0 c.if-root_count-lt1.true)

pub loop-band-preserved : goal.loop-band-preserved
loop-band-preserved c = (
  omega arith,
  positive_next _ _ (omega arith) c.loop-band.invariant.1 (some_counts _ _ _ c.page_count.ensures.0 c.if-page_count-lt1.false _ c.root_count.ensures.0 c.if-root_count-lt1.false),
)

pub returns : goal.returns
unfolding every numbers_from
returns c =
    let image = c.args.image.now in
    let band : ℕ = c.loop-band.band in
    let e : 9 - band ≡ 0 = omega arith in
    sym (c.loop-band.invariant.1 ∙ ap (λ (n : ℕ). every (counts_positive image) (numbers_from band n)) e)
