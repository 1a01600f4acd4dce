-- `edit::records::records_with` meets its contract. Assumes nothing.
use Rattle.edit.proofs.Copies.{loaded_with}
use Rattle.edit.proofs.records.records_with.Goals as goal

pub returns : goal.returns
returns c =
    loaded_with _ _ _ _ c.requires.0 c.requires.1 _ _ c.requires.3 c.load.ensures c.load-2.ensures
