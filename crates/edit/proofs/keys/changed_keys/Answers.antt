-- `edit::keys::changed_keys` meets its contract. Assumes nothing.
use native.Mathlib.Omega.{arith}
use Rattle.format.specs.Image.{keys_of}
use Rattle.format.proofs.Accepted.{facts}
use Rattle.format.proofs.Descent.{at_rank_lem}
use Rattle.format.proofs.Members.{rank_le}
use Rattle.edit.specs.Edit.{changed_count}
use Rattle.edit.proofs.AtRank.{is_listed}
use Rattle.edit.proofs.Job.{keys_added, keys_withdrawn}
use Rattle.edit.proofs.keys.changed_keys.Goals as goal

pub keys_with-requires : goal.keys_with-requires
unfolding changed_count
keys_with-requires c =
    let d = rw c.in-Add.is at c.requires.0 in
    let f = (facts _ d.accepted).keys in
    (d.accepted, omega (arith, d.rank_is, rank_le (keys_of c.args.image.now) c.args.key, f.count_is), omega (arith, d.few, c.requires.1))

pub keys_without-requires : goal.keys_without-requires
keys_without-requires c =
    let d = rw c.in-Withdraw.is at c.requires.0 in
    let f = facts _ d.accepted in
    (d.accepted, omega (arith, d.rank_is, (at_rank_lem (keys_of c.args.image.now) c.args.key f.keys.asc (is_listed c.args.image.now c.args.key d.can)).within, f.keys.count_is), omega (arith, f.few, c.requires.1))

pub returns-in-Add : goal.returns-in-Add
returns-in-Add c = keys_added _ _ _ _ _ _ c.in-Add.is c.requires.0 c.keys_with.ensures

pub returns-in-Withdraw : goal.returns-in-Withdraw
returns-in-Withdraw c = keys_withdrawn _ _ _ _ _ _ c.in-Withdraw.is c.requires.0 c.keys_without.ensures
