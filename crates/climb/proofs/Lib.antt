-- Laws for the climb from a rank to its key. Each file's head says its subject; a file uses only those above it.

-- on bits by their number
pub mod Sums
pub mod Selecting
pub mod BitPlaces
-- from an out-link to its root, and band by band to the key
pub mod Climbing
pub mod Ranked
