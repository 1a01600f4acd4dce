-- The walks over the members of a rectangle.

-- blocks of the square, and how they lie to a rectangle
pub mod Block
-- what a walk lists
pub mod Walk
