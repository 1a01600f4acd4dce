-- Working memory, which functions of the writing crates are lent: what it holds at exit.
-- Assumes nothing.
use Rattle.std.specs.Prelude.{◌≡◌, List, ℕ, length, take, drop}

-- working memory: what it holds is free, its length stays
abbrev pub Free : List ℕ → List ℕ → Type 0
Free before after = length after ≡ length before

-- working memory from a place on: what stands before that place is as it was
pub record FreeFrom (place : ℕ) (before after : List ℕ) : Type 0 where
  pub free : Free before after
  pub kept : take place after ≡ take place before

-- working memory up to a place: what stands from that place on is as it was
pub record FreeUpTo (place : ℕ) (before after : List ℕ) : Type 0 where
  pub free : Free before after
  pub kept : drop place after ≡ drop place before
