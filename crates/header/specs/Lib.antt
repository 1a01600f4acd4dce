-- The header's questions.

-- tests of the counts
pub mod Counts
