-- Bands and pages of an accepted image.

-- the prefixes of the keys by their number: roots, out-links, keys
pub mod Prefix
-- a band and a page as the jobs hold them
pub mod Page
