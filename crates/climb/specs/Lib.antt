-- From a rank up to its key.

-- an on bit by its number, in a word and in a page
pub mod Select
-- from an out-link to a root
pub mod Climb
