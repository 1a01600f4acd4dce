-- Laws for the bytes of one page. Each file's head says its subject; a file uses only those above it.

-- a number's bytes; nodes in the bytes of a page
pub mod Bytes
pub mod Nodes
pub mod Filling
-- one level, from its last node to its first
pub mod Fronts
pub mod Levels
pub mod Marks
-- the four levels, and the whole page
pub mod Pages
pub mod Filled
