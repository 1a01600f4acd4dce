-- Laws for the questions in order. Each file's head says its subject; a file uses only those above it.

-- questions 8 to 12 of a page
pub mod Shapes
pub mod First
pub mod Twelve
pub mod Pages
-- 8 to 13 page after page, and band after band
pub mod Bands
pub mod Images
-- the checker's answer to the other jobs
pub mod After
