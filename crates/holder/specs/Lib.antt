-- A holder's record.

-- what is below an out-link, and below a pair of endings
pub mod Below
