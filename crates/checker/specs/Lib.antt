-- What the checker's inner functions find.

-- questions 8 to 12 of a page where it stands in the bytes
pub mod Paged
