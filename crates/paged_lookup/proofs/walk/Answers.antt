-- `paged_lookup::walk` meets its contract. Assumes nothing.
use mathlib.Core.Path.{sym, ap, ◌∙◌}
use native.Mathlib.Omega.{arith}
use Rattle.std.proofs.lemmas.Result.{err_from_is_err_and}
use Rattle.nodes.proofs.Numbers.{bytes_of}
use Rattle.paged_lookup.proofs.Walking.{header-yes_of, no_keys_answer, walking_start, walking_band, walking_refused, walking_ends, left_on, left_off, walking_page, walking_next, walking_listed, walking_absent}
use Rattle.paged_lookup.proofs.walk.Goals.{in-Out, in-Off+else-figure-links_due}
use Rattle.paged_lookup.proofs.walk.Goals as goal

pub key_count-keys-requires : goal.key_count-keys-requires
key_count-keys-requires c = (header-yes_of _ c.requires.0).long

pub returns-then-keys-eq0 : goal.returns-then-keys-eq0
returns-then-keys-eq0 c = no_keys_answer _ _ (sym c.key_count-keys.ensures.0 ∙ c.if-keys-eq0.true)

pub loop-passed-init : goal.loop-passed-init
loop-passed-init c =
    walking_start c.args.key (bytes_of c.args.image.now (λ i. (c.type_inv.image i).fits)) c.requires.0 (λ z. c.if-keys-eq0.false (c.key_count-keys.ensures.0 ∙ z))

pub through-requires : goal.through-requires
through-requires c =
    let s = c.loop-passed.invariant in
    let p = c.requires in (
      λ a. record { accepted = p.1 a; some = omega (arith, c.if-keys-eq0.false, c.key_count-keys.ensures.0) },
      walking_band s c.loop-passed-test.true,
      omega (arith, s.link_in c.loop-passed-test.true, ap (λ x. x.0) c.cross.ensures),
    )

pub returns-in_err-step : goal.returns-in_err-step
returns-in_err-step c =
    let p = err_from_is_err_and c.from_residual.result c.from_residual.ensures.1 in
    rw (p.1, p.2) (walking_refused c.loop-passed.invariant c.loop-passed-test.true (ap (λ x. x.0) c.cross.ensures) _ c.in_err-step.ensures.outcome)

pub links_due-requires : goal.links_due-requires
links_due-requires c = (c.loop-passed.invariant.header.long, omega (arith, c.loop-passed-test.true))

pub returns-then-figure-links_due : goal.returns-then-figure-links_due
returns-then-figure-links_due c =
    walking_ends c.loop-passed.invariant c.loop-passed-test.true (ap (λ x. x.0) c.cross.ensures) c.in_ok-step.ensures c.in-Off.is (c.if-figure-links_due.true ∙ c.links_due.ensures.0) c.key_count-keys.ensures.0

pub page_count-first-requires : goal.page_count-first-requires
page_count-first-requires c = (c.loop-passed.invariant.header.long, omega (arith, c.loop-passed-test.true))

pub overflow_add-first : goal.overflow_add-first
overflow_add-first c = omega (arith, c.loop-passed.invariant.few, c.loop-passed-test.true, c.page_count-first.ensures.1)

pub overflow_cast-result : goal.overflow_cast-result
overflow_cast-result c = omega (arith, c.loop-passed.invariant.link_small)

pub returns-then-on : goal.returns-then-on
returns-then-on c = walking_listed c.loop-passed.invariant c.loop-passed-test.false c.if-on.true

pub returns : goal.returns
returns c = walking_absent c.loop-passed.invariant c.loop-passed-test.false c.if-on.false

-- where a band has been left, by an out-link or by a figure
pub overflow_cast-pages : goal.overflow_cast-pages
overflow_cast-pages c =
    let s = c.loop-passed.invariant in
    let h = c.loop-passed-test.true in
    let r = ap (λ x. x.0) c.cross.ensures in
    let q = c.in_ok-step.ensures in
    elim c.match-step.branch [
      | in-Out w ↦ record { fits = walking_page s h r q (left_on s h r q w.in-Out.is) }
      | in-Off+else-figure-links_due w ↦ record { fits = walking_page s h r q (left_off s h r q w.in-Off.is (λ e. w.if-figure-links_due.false (e ∙ sym w.links_due.ensures.0))) }
    ]

pub loop-passed-preserved : goal.loop-passed-preserved
loop-passed-preserved c =
    let s = c.loop-passed.invariant in
    let h = c.loop-passed-test.true in
    let r = ap (λ x. x.0) c.cross.ensures in
    let q = c.in_ok-step.ensures in
    let n = c.page_count-first.ensures in
    elim c.match-step.branch [
      | in-Out w ↦ rw (w.link-is, w.on-is) (walking_next s h r q (left_on s h r q w.in-Out.is) n.0 n.1)
      | in-Off+else-figure-links_due w ↦ rw (w.link-is, w.on-is) (walking_next s h r q (left_off s h r q w.in-Off.is (λ e. w.if-figure-links_due.false (e ∙ sym w.links_due.ensures.0))) n.0 n.1)
    ]
