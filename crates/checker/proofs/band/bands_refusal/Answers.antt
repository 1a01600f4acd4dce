-- `checker::band::bands_refusal` meets its contract. The loop's invariant: the bands passed got a yes throughout. Assumes nothing.
use mathlib.Core.Path.{◌≡◌, ap, sym, ◌∙◌}
use Prim.Native.Nat.{ℕ, ◌+◌, ◌-◌}
use native.Mathlib.Omega.{arith}
use Rattle.std.proofs.lemmas.Result.{err_from_is_err_and}
use Rattle.format.specs.Image.{page_count}
use Rattle.format.specs.Question.{band_questions, first_no}
use Rattle.checker.proofs.Images.{passed_start, passed_no, passed_next, passed_end, band_at_lem}
use Rattle.checker.proofs.band.bands_refusal.Goals as goal

pub loop-band-init : goal.loop-band-init
loop-band-init c = passed_start _ c.requires

pub band_refusal-requires : goal.band_refusal-requires
band_refusal-requires c =
    let e : c.loop-band.band - 1 + 1 ≡ c.loop-band.band = omega arith in
    rw e at (band_at_lem _ c.loop-band.invariant (omega arith))

pub returns-in_err-band_refusal : goal.returns-in_err-band_refusal
returns-in_err-band_refusal c =
    let image = c.args.image.now in
    let p = err_from_is_err_and c.from_residual.result c.from_residual.ensures.1 in
    let e : c.loop-band.band - 1 + 1 ≡ c.loop-band.band = omega arith in
    rw (p.1, p.2) (passed_no _ c.loop-band.invariant (omega arith) _ (c.in_err-band_refusal.ensures ∙ ap (λ (b : ℕ). first_no (band_questions image b)) (sym e)))

pub loop-band-preserved : goal.loop-band-preserved
loop-band-preserved c =
    let image = c.args.image.now in
    let e : c.loop-band.band - 1 + 1 ≡ c.loop-band.band = omega arith in
    let f : c.loop-band.band + 1 - 1 ≡ c.loop-band.band - 1 + 1 = omega arith in
    rw f (passed_next _ c.loop-band.invariant (omega arith) (c.in_ok-band_refusal.ensures ∙ ap (λ (b : ℕ). first_no (band_questions image b)) (sym e)) _ (c.page_count-first.ensures.0 ∙ ap (page_count image) (sym e))
    c.page_count-first.ensures.1)

pub returns : goal.returns
returns c = passed_end _ c.loop-band.invariant (omega arith)
