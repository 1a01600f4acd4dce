-- Laws for the walks: what is listed. Each file's head says its subject; a file uses only those above it.

-- members between two keys, a buffer's places, a set's on bits one after the other
pub mod Between
pub mod Places
pub mod Endings
-- blocks and the rectangle
pub mod Blocks
pub mod Placing
-- the walks
pub mod Steps
pub mod Whole
pub mod Walked
pub mod Chains
