-- Laws for scans over ascending prefixes. Each file's head says its subject; a file uses only those above it.

-- runs of prefixes, and the band above a run
pub mod Runs
pub mod Bands
-- the scans: ascending or not, the first page's run, a band's counts
pub mod Ascending
pub mod Scan
pub mod Counting
