-- The eight-page lookup: its outcome on every byte sequence, what is promised of it, its answer in the papers' terms, and what its inner functions find.

-- the outcome
pub mod Paged
-- the statement that it is the full lookup on accepted images, and reads little of any bytes
pub mod EightPages
-- the answer in the papers' terms
pub mod Outcomes
-- what the inner functions find
pub mod Way
