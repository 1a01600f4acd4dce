-- The writer: its answer in the papers' terms, and how the lent list becomes keys.

-- the answer in the papers' terms
pub mod Outcomes
-- the lent list and its keys
pub mod List
