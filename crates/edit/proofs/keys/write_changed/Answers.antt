-- `edit::keys::write_changed` meets its contract. Assumes nothing.
use Rattle.format.proofs.Accepted.{facts}
use Rattle.edit.proofs.Job.{written_changed}
use Rattle.edit.proofs.keys.write_changed.Goals as goal

pub lift-lift-requires : goal.lift-lift-requires
lift-lift-requires c = (facts _ c.requires.accepted).questions.header.long

pub returns : goal.returns
returns c =
    written_changed _ _ _ _ _ _ _ _ c.lift-lift.ensures.0 c.changed_keys-n.ensures c.write_either.ensures
