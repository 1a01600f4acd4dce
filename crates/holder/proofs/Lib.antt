-- Laws for the walk down a holder's branches. Each file's head says its subject; a file uses only those above it.

-- the largest record below an out-link
pub mod Records
-- the endings of a subtrie that have a holder's bits, and two of them
pub mod Endings
pub mod Pairs
-- a subtrie, and the whole image
pub mod Subtries
