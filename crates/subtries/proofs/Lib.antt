-- Laws for reading subtries one after the other. Each file's head says its subject; a file uses only those above it.

-- ranks and sets of bits
pub mod Ranks
pub mod Sets
-- a subtrie's levels
pub mod Starts
pub mod Reading
pub mod Levels
pub mod OnBits
pub mod Subtries
-- where a band's reading stands
pub mod Next
pub mod Spots
pub mod Single
pub mod Skips
pub mod Kept
