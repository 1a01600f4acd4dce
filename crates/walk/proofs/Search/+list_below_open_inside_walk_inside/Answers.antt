-- The proof of the cycle of calls {list_below, open_inside, walk_inside}. The measure is the bands left; the walker's loop ends with the out-links of the
-- subtrie, the opener's with a subtrie of several out-links or a key.
-- Assumes nothing.
use mathlib.Core.Path.{refl, ap}
use Prim.Native.Nat.{◌-◌, ◌≤◌}
use native.Mathlib.Omega.{arith}
use Rattle.walk.specs.Walk.{any_key}
use Rattle.walk.proofs.Endings.{power_positive}
use Rattle.walk.proofs.Places.{listed_one}
use Rattle.walk.proofs.Chains.{chain_start, chain_end, chain_walking, chain_some, chain_fits, chain_under, chain_listed, chain_key, chain_next, chain_put}
use Rattle.walk.proofs.Steps.{members_key, room_one, room_same, root_there}
use Rattle.walk.proofs.Walked.{walk_start, walk-rest, walk_first, walk_on, walk_next, walk_end, walked_key, walked_link, walked_on, walked_opening, walked_room}
use Rattle.walk.proofs.Search.+list_below_open_inside_walk_inside.Goals as goal

-- ---- below an out-link

pub list_below-put-requires : goal.list_below-put-requires
list_below-put-requires t c =
    let p = c.requires in
    room_one _ _ _ _ (members_key p.0 c.if-band-eq9.true any_key refl) p.2

pub list_below-returns-then-band-eq9 : goal.list_below-returns-then-band-eq9
list_below-returns-then-band-eq9 t c =
    let p = c.requires in
    (rw (c.put.ensures.0, c.put.ensures.1) (listed_one _ (members_key p.0 c.if-band-eq9.true any_key refl)), p.1)

pub list_below-open_inside-requires : goal.list_below-open_inside-requires
list_below-open_inside-requires t c =
    let p = c.requires in
    (omega (arith, c.decreases, p.0.to), p)

pub list_below-returns : goal.list_below-returns
list_below-returns t c = c.open_inside.ensures

-- ---- the opener

pub open_inside-loop-number-init : goal.open_inside-loop-number-init
open_inside-loop-number-init t c = let p = c.requires in chain_start p.0 p.1 p.2

pub open_inside-next_subtrie-subtrie-requires : goal.open_inside-next_subtrie-subtrie-requires
open_inside-next_subtrie-subtrie-requires t c =
    let s = c.loop-number.invariant in
    let h : c.loop-number.number ≤ 8 = omega arith in
    (s.opening.ready, s.opening.from, h, root_there s.opening h (ap (λ x. x.0) c.cross.ensures), s.right)

pub open_inside-first_on-ending-requires : goal.open_inside-first_on-ending-requires
open_inside-first_on-ending-requires t c =
    let s = c.loop-number.invariant in
    let h : c.loop-number.number ≤ 8 = omega arith in
    let e = ap (λ x. x.0) c.cross.ensures in
    (chain_some s h e c.next_subtrie-subtrie.ensures.0, chain_fits s h e c.next_subtrie-subtrie.ensures.0)

pub open_inside-without-requires : goal.open_inside-without-requires
open_inside-without-requires t c = c.first_on-ending.ensures

pub open_inside-walk_inside-requires : goal.open_inside-walk_inside-requires
open_inside-walk_inside-requires t c =
    let s = c.loop-number.invariant in
    let h : c.loop-number.number ≤ 8 = omega arith in
    let e = ap (λ x. x.0) c.cross.ensures in
    let p = c.requires in (
      omega (arith, c.decreases, s.from),
      (chain_walking s h e c.next_subtrie-subtrie.ensures.0, c.next_subtrie-subtrie.ensures.1, room_same _ _ _ _ (chain_under s h e c.next_subtrie-subtrie.ensures.0) s.room),
    )

pub open_inside-returns-then-without-ne0 : goal.open_inside-returns-then-without-ne0
open_inside-returns-then-without-ne0 t c =
    let s = c.loop-number.invariant in
    (chain_listed s (omega arith) (ap (λ x. x.0) c.cross.ensures) c.next_subtrie-subtrie.ensures.0 c.walk_inside.ensures.0, c.walk_inside.ensures.1)

pub open_inside-overflow_mul-key : goal.open_inside-overflow_mul-key
open_inside-overflow_mul-key t c =
    let s = c.loop-number.invariant in
    omega (arith, chain_key s (omega arith) (ap (λ x. x.0) c.cross.ensures) c.next_subtrie-subtrie.ensures.0 c.first_on-ending.ensures)

pub open_inside-overflow_add-key : goal.open_inside-overflow_add-key
open_inside-overflow_add-key t c =
    let s = c.loop-number.invariant in
    omega (arith, chain_key s (omega arith) (ap (λ x. x.0) c.cross.ensures) c.next_subtrie-subtrie.ensures.0 c.first_on-ending.ensures)

pub open_inside-loop-number-preserved : goal.open_inside-loop-number-preserved
open_inside-loop-number-preserved t c =
    let s = c.loop-number.invariant in
    chain_next s (omega arith) (ap (λ x. x.0) c.cross.ensures) c.next_subtrie-subtrie.ensures.0 c.first_on-ending.ensures c.without.ensures (omega (arith, c.if-without-ne0.false)) c.next_subtrie-subtrie.ensures.1

pub open_inside-put-requires : goal.open_inside-put-requires
open_inside-put-requires t c = let s = c.loop-number.invariant in room_one _ _ _ _ (chain_end s (omega (arith, c.loop-number-test.false))) s.room

pub open_inside-returns : goal.open_inside-returns
open_inside-returns t c =
    let s = c.loop-number.invariant in
    (rw (c.put.ensures.0, c.put.ensures.1) (chain_put s (omega (arith, c.loop-number-test.false))), s.right)

-- ---- the walker

pub walk_inside-loop-rest-init : goal.walk_inside-loop-rest-init
walk_inside-loop-rest-init t c = let p = c.requires in walk_start p.0 p.1 p.2

pub walk_inside-first_on-ending-requires : goal.walk_inside-first_on-ending-requires
walk_inside-first_on-ending-requires t c = (omega (arith, c.loop-rest-test.true), walk-rest c.loop-rest.invariant)

pub walk_inside-without-rest-requires : goal.walk_inside-without-rest-requires
walk_inside-without-rest-requires t c = c.first_on-ending.ensures

pub walk_inside-overflow_mul-key : goal.walk_inside-overflow_mul-key
walk_inside-overflow_mul-key t c =
    omega (arith, walked_key (walk_first c.loop-rest.invariant c.first_on-ending.ensures) c.first_on-ending.ensures.small)

pub walk_inside-overflow_add-key : goal.walk_inside-overflow_add-key
walk_inside-overflow_add-key t c =
    omega (arith, walked_key (walk_first c.loop-rest.invariant c.first_on-ending.ensures) c.first_on-ending.ensures.small)

pub walk_inside-overflow_add-number : goal.walk_inside-overflow_add-number
walk_inside-overflow_add-number t c = let w = c.loop-rest.invariant in omega (arith, w.walked.walking.to)

pub walk_inside-list_below-n-requires : goal.walk_inside-list_below-n-requires
walk_inside-list_below-n-requires t c =
    let w = c.loop-rest.invariant in
    let s = walk_first w c.first_on-ending.ensures in
    let h = c.first_on-ending.ensures.small in
    let on = walk_on w c.first_on-ending.ensures in
    let p = c.requires in
    (omega (arith, c.decreases, s.walking.to), (walked_opening s h on, s.right, walked_room s h on))

pub walk_inside-overflow_add-next : goal.walk_inside-overflow_add-next
walk_inside-overflow_add-next t c =
    let w = c.loop-rest.invariant in
    omega (arith, walked_link (walk_first w c.first_on-ending.ensures))

pub walk_inside-loop-rest-smaller : goal.walk_inside-loop-rest-smaller
walk_inside-loop-rest-smaller t c =
    omega (arith, c.without-rest.ensures, c.first_on-ending.ensures.on, power_positive (15 - c.first_on-ending.result))

pub walk_inside-loop-rest-preserved : goal.walk_inside-loop-rest-preserved
walk_inside-loop-rest-preserved t c =
    let w = c.loop-rest.invariant in
    let o = c.first_on-ending.ensures in
    let s = walk_first w c.first_on-ending.ensures in
    rw c.without-rest.ensures (walk_next w c.first_on-ending.ensures (walked_on s c.first_on-ending.ensures.small (walk_on w c.first_on-ending.ensures) c.list_below-n.ensures.0 c.list_below-n.ensures.1 c.list_below-n.auto.keys))

pub walk_inside-returns : goal.walk_inside-returns
walk_inside-returns t c = let s = c.loop-rest.invariant in (walk_end s (omega (arith, c.loop-rest-test.false)), s.walked.right)
