-- `climb::key_at` meets its contract. Assumes nothing.
use mathlib.Core.Path.{◌≡◌, refl, sym, ap, ◌∙◌}
use Prim.Native.Nat.{ℕ, ◌+◌, ◌-◌, ◌*◌, ◌^◌, ◌<◌}
use native.Mathlib.Nat.{pow-suc}
use native.Mathlib.Numerals.{add-one}
use native.Mathlib.Omega.{arith}
use Rattle.pages.proofs.Pages.{header_long}
use Rattle.climb.proofs.Ranked.{ranked_start, ranked_first, ranked_link, ranked_small, ranked_fits, ranked_turn, ranked_next, ranked_end}
use Rattle.climb.proofs.key_at.Goals as goal

pub loop-passed-init : goal.loop-passed-init
loop-passed-init c = let p = c.requires in ranked_start p.0 _ p.1

pub page_count-first-requires : goal.page_count-first-requires
page_count-first-requires c = let s = c.loop-passed.invariant in (header_long s.ready, s.to)

pub overflow_sub-first : goal.overflow_sub-first
overflow_sub-first c =
    let more : 0 < 8 - c.loop-passed.passed = omega arith in
    (ranked_first c.loop-passed.invariant more c.page_count-first.ensures.0).0

pub read-requires : goal.read-requires
read-requires c =
    let s = c.loop-passed.invariant in
    let more : 0 < 8 - c.loop-passed.passed = omega arith in
    (s.ready, omega arith, s.to, (ranked_first s more c.page_count-first.ensures.0).1)

pub head_of_link-head-requires : goal.head_of_link-head-requires
head_of_link-head-requires c =
    let s = c.loop-passed.invariant in
    let more : 0 < 8 - c.loop-passed.passed = omega arith in
    (s.ready, c.read.ensures.0, ranked_link s more c.read.ensures.1)

pub climb-climbed-requires : goal.climb-climbed-requires
climb-climbed-requires c =
    let s = c.loop-passed.invariant in
    let more : 0 < 8 - c.loop-passed.passed = omega arith in
    let p = c.head_of_link-head.ensures in
    (s.ready, p.0, ranked_small s more, p.2, p.3)

pub overflow_add-key : goal.overflow_add-key
overflow_add-key c =
    let s = c.loop-passed.invariant in
    let more : 0 < 8 - c.loop-passed.passed = omega arith in
    let few = c.climb-climbed.ensures.small in
    record { fits = omega (arith, s.small, ranked_fits s more few, ranked_turn s more c.loop-passed.passed few refl) }

pub loop-passed-preserved : goal.loop-passed-preserved
loop-passed-preserved c =
    let s = c.loop-passed.invariant in
    let passed : ℕ = c.loop-passed.passed in
    let more : 0 < 8 - passed = omega arith in
    let less : 8 - passed - 1 ≡ 8 - (passed + 1) = omega arith in
    let unit : 16 ^ passed * 16 ≡ 16 ^ (passed + 1) = sym (ap (16 ^◌) (add-one passed) ∙ pow-suc 16 passed) in
    let turn = ranked_turn s more passed c.climb-climbed.ensures.small refl in
    let next = ranked_next s more (c.head_of_link-head.ensures.1 ∙ c.read.ensures.1) c.climb-climbed.ensures (ap (λ x. x.0) c.link_to-link.ensures) in
    rw (c.page_count-first.ensures.0, turn, ← unit, ← less) next

pub returns : goal.returns
returns c = (ranked_end c.loop-passed.invariant (omega arith)).0
