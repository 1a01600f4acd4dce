-- The subtries of an accepted image as a walk reads them.

-- the on bits of nodes of a page
pub mod OnBits
-- a subtrie's levels as sets of bits
pub mod Subtrie
-- where the reading of a band stands
pub mod Spot
