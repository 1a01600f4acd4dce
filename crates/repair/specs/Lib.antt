-- Damaged page heads worked out afresh: the definitions in the order to read them in.

-- the bytes that a repair keeps
pub mod Kept
-- the numbers that it works out
pub mod Numbers
-- the questions and the job
pub mod Repair
-- the statement of what a repair gives, and that there is only one such image
pub mod Laws
-- for the job's inner functions: when 37 gets a yes, a page's roots, and what the arrays hold
pub mod Sound
pub mod Inner
