-- Laws for the two passes over the bands. Each file's head says its subject; a file uses only those above it.

-- a part put back
pub mod Parts
-- the counts of bands as numbers
pub mod Numbers
-- the pages of one band, and the header
pub mod Band
pub mod Header
-- the first pass, and the second
pub mod Planning
pub mod Writing
