-- Keys by a table of spreads.

-- the rule of the table
pub mod Table
