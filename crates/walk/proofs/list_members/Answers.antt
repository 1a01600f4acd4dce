-- `walk::list_members` meets its contract. Assumes nothing.
use mathlib.Core.Path.{sym, ap, ◌∙◌}
use native.Mathlib.Omega.{arith}
use lib.ListN.{length}
use Rattle.subtries.proofs.Kept.{no_spots}
use Rattle.walk.proofs.Places.{listed_none}
use Rattle.walk.proofs.Steps.{listed_same}
use Rattle.walk.proofs.Whole.{image_long, ready_of, no_members, members_all, members_few, members_whole, opening_start, whole_covers}
use Rattle.walk.proofs.list_members.Goals as goal

pub key_count-requires : goal.key_count-requires
key_count-requires c = image_long c.requires

pub returns-then-key_count-eq0 : goal.returns-then-key_count-eq0
returns-then-key_count-eq0 c = listed_none (no_members c.requires _ (sym c.key_count.ensures.0 ∙ c.if-key_count-eq0.true))

pub place_in-requires : goal.place_in-requires
place_in-requires c = (omega arith, c.whole-whole.ensures.1, rw c.whole-whole.ensures.0 (omega arith))

pub open_inside-requires : goal.open_inside-requires
open_inside-requires c =
    let p = whole_covers c.args.rectangle c.place_in.ensures c.in-Inside.is c.whole-whole.ensures.0 in (
      opening_start (ready_of c.requires (λ z. c.if-key_count-eq0.false (c.key_count.ensures.0 ∙ z))),
      no_spots c.args.image.now,
      omega (arith, ap length (members_all c.requires c.args.rectangle p), members_few c.requires c.args.rectangle),
    )

pub open_band-requires : goal.open_band-requires
open_band-requires c =
    let e = c.whole-whole.ensures.0 in (
      rw e (opening_start (ready_of c.requires (λ z. c.if-key_count-eq0.false (c.key_count.ensures.0 ∙ z)))),
      omega arith,
      c.whole-whole.ensures.1,
      no_spots c.args.image.now,
      rw e (omega (arith, ap length (members_whole c.requires c.args.rectangle), members_few c.requires c.args.rectangle)),
    )

pub returns-in-Inside : goal.returns-in-Inside
returns-in-Inside c =
    let p = whole_covers c.args.rectangle c.place_in.ensures c.in-Inside.is c.whole-whole.ensures.0 in
    listed_same (members_all c.requires c.args.rectangle p) c.open_inside.ensures.0

pub returns-in_default : goal.returns-in_default
returns-in_default c =
    listed_same (sym (members_whole c.requires c.args.rectangle)) (rw c.whole-whole.ensures.0 at c.open_band.ensures.0)
