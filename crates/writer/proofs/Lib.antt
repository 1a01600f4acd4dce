-- Laws for the writer's jobs. Each file's head says its subject; a file uses only those above it.

-- the image of a list of keys
pub mod Job
-- the lent list, woven into keys
pub mod Weaving
