-- Packing, and the working memory of the writing crates.

-- working memory: what it holds at exit
pub mod Memory
-- lists of prefixes, the pages above them, and what a scan counts
pub mod Run
