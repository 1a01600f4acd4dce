-- Laws for bands and pages of an accepted image. Each file's head says its subject; a file uses only those above it.
pub mod Pages
pub mod Counts
pub mod Opened
pub mod Search
pub mod PageWords
pub mod Heads
