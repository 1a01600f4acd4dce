-- Laws of the eight-page lookup. Each file's head says its subject; a file uses only those above it.

-- its questions and its way, and on an accepted image that it is the full lookup
pub mod LastPages
pub mod Ways
pub mod Bands
pub mod Agreement
-- what it reads
pub mod SameBytes
pub mod SameHeader
pub mod Reading
pub mod EightPages
-- the code
pub mod Sides
pub mod PageLevels
pub mod Children
pub mod Following
pub mod Finding
pub mod Steps
pub mod Walking
