-- Laws for the header's questions. Each file's head says its subject; a file uses only those above it.
pub mod Turns
pub mod Asked
-- which question is the first that gets a no
pub mod First
