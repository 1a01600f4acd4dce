-- Laws of the edit. Each file's head says its subject; a file uses only those above it.

-- the changed list, its records, and both at the key's rank
pub mod ChangedKeys
pub mod ChangedRecords
pub mod AtRank
-- what is left in lent places, and the job's answer and outputs
pub mod Copies
pub mod Job
-- the outputs, and the statement of specs/Laws
pub mod Outputs
pub mod Edits
