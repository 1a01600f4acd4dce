-- `walk::count_members` meets its contract. Assumes nothing.
use native.Mathlib.Omega.{arith}
use Rattle.walk.proofs.Whole.{count_all, image_long, members_few, whole_covers}
use Rattle.walk.proofs.count_members.Goals as goal

pub place_in-requires : goal.place_in-requires
place_in-requires c = (omega arith, c.whole.ensures.1, rw c.whole.ensures.0 (omega arith))

pub key_count-requires : goal.key_count-requires
key_count-requires c = image_long c.requires

pub returns-in-Inside : goal.returns-in-Inside
returns-in-Inside c =
    let p = whole_covers c.args.rectangle c.place_in.ensures c.in-Inside.is c.whole.ensures.0 in
    let e = count_all c.requires c.args.rectangle p in
    (omega (arith, c.key_count.ensures.0, e), omega (arith, c.key_count.ensures.0, e, members_few c.requires c.args.rectangle))

pub returns-in_default : goal.returns-in_default
returns-in_default c =
    let e = c.list_members.ensures.count in
    (omega arith, omega (arith, members_few c.requires c.args.rectangle))
