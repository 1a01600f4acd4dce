-- One sale, one withdrawal: the definitions in the order to read them in.

-- the changed list, its records, the questions and the job
pub mod Edit
-- what the functions promise
pub mod Outcomes
-- the statement of what an edit does, and of what undoes it
pub mod Laws
