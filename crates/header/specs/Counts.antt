-- Tests of the header's counts.
-- Assumes nothing.
use Rattle.std.specs.Prelude.{Bool, ◌&&◌, List, ℕ}
use Rattle.format.specs.Image.{page_count, root_count}
use Rattle.format.specs.Question.{is_zero, is_positive}

-- whether a band's two counts are 0, and whether they are at least 1
abbrev pub counts_zero : List ℕ → ℕ → Bool
counts_zero img b = is_zero (page_count img b) && is_zero (root_count img b)

abbrev pub counts_positive : List ℕ → ℕ → Bool
counts_positive img b = is_positive (page_count img b) && is_positive (root_count img b)
