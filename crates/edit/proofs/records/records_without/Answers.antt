-- `edit::records::records_without` meets its contract. Assumes nothing.
use Rattle.edit.proofs.Copies.{loaded_without}
use Rattle.edit.proofs.records.records_without.Goals as goal

pub returns : goal.returns
returns c =
    loaded_without _ _ _ _ c.requires.0 c.requires.1 _ _ c.requires.3 c.load.ensures c.load-2.ensures
