-- The proof of the cycle of calls {list_block, open_band, walk_subtrie}. The measure is the bands left; the walker's loop ends with the out-links of the
-- subtrie.
-- Assumes nothing.
use mathlib.Core.Path.{ap}
use Prim.Native.Nat.{◌-◌}
use native.Mathlib.Omega.{arith}
use Rattle.format.specs.Answer.{inside}
use Rattle.walk.proofs.Endings.{power_positive}
use Rattle.walk.proofs.Places.{listed_none}
use Rattle.walk.proofs.Steps.{block_half, block_short, listed_same, members_cut, members_every, members_key, members_nine, members_same, place_apart, place_covers, prefix_fits, room_one, room_same, root_there, walking_start}
use Rattle.walk.proofs.Walked.{walk_start, walk-rest, walk_first, walk_on, walk_next, walk_end, walked_link, walked_on, walked_opening, walked_room}
use Rattle.walk.proofs.Search.+list_block_open_band_walk_subtrie.Goals as goal

-- ---- a block

pub list_block-list_key-requires : goal.list_block-list_key-requires
list_block-list_key-requires t c =
    let p = c.requires in
    (p.1, λ e. room_one _ _ _ _ (members_key p.0 c.if-number-eq9.true (inside c.args.self.now.rectangle) e) p.3)

pub list_block-returns-then-number-eq9 : goal.list_block-returns-then-number-eq9
list_block-returns-then-number-eq9 t c =
    let p = c.requires in
    (listed_same (members_nine p.0 c.if-number-eq9.true (inside c.args.self.now.rectangle)) c.list_key.ensures, p.2)

pub list_block-overflow_mul-number : goal.list_block-overflow_mul-number
list_block-overflow_mul-number t c = let o = c.requires.0 in omega (arith, o.to)

pub list_block-overflow_sub-number : goal.list_block-overflow_sub-number
list_block-overflow_sub-number t c = let o = c.requires.0 in omega (arith, o.to)

pub list_block-place_in-requires : goal.list_block-place_in-requires
list_block-place_in-requires t c = let p = c.requires in (block_half p.0, p.1, block_short p.0)

pub list_block-open_inside-requires : goal.list_block-open_inside-requires
list_block-open_inside-requires t c =
    let p = c.requires in
    (p.0, p.2, room_same _ _ _ _ (members_every _ _ _ _ (place_covers p.0 c.args.self.now.rectangle c.place_in.ensures c.in-Inside.is)) p.3)

pub list_block-open_band-requires : goal.list_block-open_band-requires
list_block-open_band-requires t c =
    let p = c.requires in
    (omega (arith, c.decreases, p.0.to), (p.0, omega (arith, p.0.to, c.if-number-eq9.false), p.1, p.2, p.3))

pub list_block-returns-in-Apart : goal.list_block-returns-in-Apart
list_block-returns-in-Apart t c =
    let p = c.requires in
    (listed_none (members_cut _ _ _ _ (place_apart p.0 c.args.self.now.rectangle c.place_in.ensures c.in-Apart.is)), p.2)

pub list_block-returns-in-Inside : goal.list_block-returns-in-Inside
list_block-returns-in-Inside t c =
    let p = c.requires in
    (listed_same (members_every _ _ _ _ (place_covers p.0 c.args.self.now.rectangle c.place_in.ensures c.in-Inside.is)) c.open_inside.ensures.0, c.open_inside.ensures.1)

pub list_block-returns-in-Across : goal.list_block-returns-in-Across
list_block-returns-in-Across t c = c.open_band.ensures

-- ---- the opener

pub open_band-next_subtrie-subtrie-requires : goal.open_band-next_subtrie-subtrie-requires
open_band-next_subtrie-subtrie-requires t c =
    let p = c.requires in
    (p.0.ready, p.0.from, p.1, root_there p.0 p.1 (ap (λ x. x.0) c.cross.ensures), p.3)

pub open_band-walk_subtrie-requires : goal.open_band-walk_subtrie-requires
open_band-walk_subtrie-requires t c =
    let p = c.requires in (
      omega (arith, c.requires.0, p.1),
      (
        walking_start p.0 p.1 (ap (λ x. x.0) c.cross.ensures) c.next_subtrie-subtrie.ensures.0,
        p.2,
        c.next_subtrie-subtrie.ensures.1,
        room_same _ _ _ _ (members_same p.0 p.1 (inside c.args.self.now.rectangle)) p.4,
      ),
    )

pub open_band-returns : goal.open_band-returns
open_band-returns t c =
    let p = c.requires in
    (listed_same (members_same p.0 p.1 (inside c.args.self.now.rectangle)) c.walk_subtrie.ensures.0, c.walk_subtrie.ensures.1)

-- ---- the walker

pub walk_subtrie-loop-rest-init : goal.walk_subtrie-loop-rest-init
walk_subtrie-loop-rest-init t c = let p = c.requires in walk_start p.0 p.2 p.3

pub walk_subtrie-first_on-ending-requires : goal.walk_subtrie-first_on-ending-requires
walk_subtrie-first_on-ending-requires t c = (omega (arith, c.loop-rest-test.true), walk-rest c.loop-rest.invariant)

pub walk_subtrie-without-rest-requires : goal.walk_subtrie-without-rest-requires
walk_subtrie-without-rest-requires t c = c.first_on-ending.ensures

pub walk_subtrie-part-below-requires : goal.walk_subtrie-part-below-requires
walk_subtrie-part-below-requires t c = (c.requires.1, prefix_fits c.loop-rest.invariant.walked.walking, c.first_on-ending.ensures.small)

pub walk_subtrie-overflow_add-number : goal.walk_subtrie-overflow_add-number
walk_subtrie-overflow_add-number t c = let w = c.loop-rest.invariant in omega (arith, w.walked.walking.to)

pub walk_subtrie-list_block-n-requires : goal.walk_subtrie-list_block-n-requires
walk_subtrie-list_block-n-requires t c =
    let w = c.loop-rest.invariant in
    let s = walk_first w c.first_on-ending.ensures in
    let h = c.first_on-ending.ensures.small in
    let on = walk_on w c.first_on-ending.ensures in
    let p = c.requires in
    (omega (arith, c.decreases, s.walking.to), (rw c.part-below.ensures.1 (walked_opening s h on), c.part-below.ensures.0, s.right, rw c.part-below.ensures.1 (walked_room s h on)))

pub walk_subtrie-overflow_add-next : goal.walk_subtrie-overflow_add-next
walk_subtrie-overflow_add-next t c =
    let w = c.loop-rest.invariant in
    omega (arith, walked_link (walk_first w c.first_on-ending.ensures))

pub walk_subtrie-loop-rest-smaller : goal.walk_subtrie-loop-rest-smaller
walk_subtrie-loop-rest-smaller t c =
    omega (arith, c.without-rest.ensures, c.first_on-ending.ensures.on, power_positive (15 - c.first_on-ending.result))

pub walk_subtrie-loop-rest-preserved : goal.walk_subtrie-loop-rest-preserved
walk_subtrie-loop-rest-preserved t c =
    let w = c.loop-rest.invariant in
    let s = walk_first w c.first_on-ending.ensures in
    rw c.without-rest.ensures (walk_next w c.first_on-ending.ensures (walked_on s c.first_on-ending.ensures.small (walk_on w c.first_on-ending.ensures) (rw c.part-below.ensures.1 at c.list_block-n.ensures.0) c.list_block-n.ensures.1 c.list_block-n.auto.keys))

pub walk_subtrie-returns : goal.walk_subtrie-returns
walk_subtrie-returns t c = let s = c.loop-rest.invariant in (walk_end s (omega (arith, c.loop-rest-test.false)), s.walked.right)
