-- What the answer of a job tells of its questions, and what the writer asks of a list and of a lift.
-- Assumes nothing.
use mathlib.Core.Path.{◌≡◌, refl, ap, ◌∙◌}
use mathlib.Core.Bool.{true}
use mathlib.Core.Option.{Option, none, some}
use mathlib.Core.List.{List}
use Prim.Native.Nat.{ℕ, ◌≤◌}
use native.Mathlib.Omega.{arith}
use borrow.Author.Tests.{le-leb, leb-true}
use lib.ListN.{length}
use Rattle.format.specs.Question.{Question, first_no, is_lift, outcome, refused, returns, settle}
use Rattle.format.specs.Writer.{ascending, list_questions}
use Rattle.format.proofs.Questions.{none_of_yes, of_range, range_of, yes_of_none}

-- a refusal is the first no, and a job that returns got a yes throughout
pub no_of_refused : {A : Type 0} (qs : List Question) (a : A) (n : ℕ) → settle qs a ≡ refused n → first_no qs ≡ some n
unfolding settle outcome
no_of_refused qs a n e = go (first_no qs) refl e
  where
    go : (o : Option ℕ) → first_no qs ≡ o → outcome o a ≡ refused n → first_no qs ≡ some n
    go none d k = absurd (let z : ◌≡◌ {A = ℕ} 0 1 = cc in omega arith)
    go (some m) d k = d ∙ ap some (let q : m ≡ n = cc in q)

pub yes_of_returns : {A : Type 0} (qs : List Question) (a b : A) → settle qs a ≡ returns b → (first_no qs ≡ none) × (a ≡ b)
unfolding settle outcome
yes_of_returns qs a b e = go (first_no qs) refl e
  where
    go : (o : Option ℕ) → first_no qs ≡ o → outcome o a ≡ returns b → (first_no qs ≡ none) × (a ≡ b)
    go none d k = (d, cc)
    go (some m) d k = absurd (let z : ◌≡◌ {A = ℕ} 0 1 = cc in omega arith)

-- the first no settles the outcome
pub refusal_settled : {A : Type 0} (qs : List Question) (a : A) (n : ℕ) → some n ≡ first_no qs → refused n ≡ settle qs a
unfolding settle outcome
refusal_settled qs a n e = ap (λ o. outcome o a) e

-- and the other way round
pub settle_no : {A : Type 0} (qs : List Question) (a : A) (n : ℕ) → first_no qs ≡ some n → settle qs a ≡ refused n
unfolding settle outcome
settle_no qs a n e = rw e

pub settle-yes : {A : Type 0} (qs : List Question) (a : A) → first_no qs ≡ none → settle qs a ≡ returns a
unfolding settle outcome
settle-yes qs a e = rw e

-- 14 and 15 are all that the writer asks of a list
pub list_writable : (keys : List ℕ) → length keys ≤ 4096 → ascending keys ≡ true → first_no (list_questions keys) ≡ none
unfolding list_questions
list_writable keys few asc = none_of_yes (list_questions keys) (le-leb (length keys) 4096 few, (asc, tt))

pub of_writable : (keys : List ℕ) → first_no (list_questions keys) ≡ none → (length keys ≤ 4096) × (ascending keys ≡ true)
unfolding list_questions
of_writable keys e = let y = yes_of_none (list_questions keys) e in (leb-true (length keys) 4096 y.0, y.1.0)

-- 35: a lift number is 1 to 999
pub lift_range : (n : ℕ) → is_lift n ≡ true → (1 ≤ n) × (n ≤ 999)
unfolding is_lift
lift_range n h = range_of 999 n h

pub lift-yes : (n : ℕ) → 1 ≤ n → n ≤ 999 → is_lift n ≡ true
unfolding is_lift
lift-yes n lo hi = of_range 999 n lo hi
