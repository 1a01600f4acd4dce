-- Lookup, count, listing and finding by rank: their answers in the papers' terms.

-- the answers in the papers' terms
pub mod Outcomes
