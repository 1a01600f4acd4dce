-- Laws for the jobs over an accepted image. Each file's head says its subject; a file uses only those above it.

-- the jobs' answers
pub mod Jobs
