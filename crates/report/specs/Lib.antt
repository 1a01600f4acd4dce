-- The listing program's output: what is returned and what the buffer holds, then the parts that it is written in.

-- the answer in the papers' terms
pub mod Outcomes
-- a line's parts, and what it is to write one
pub mod Row
