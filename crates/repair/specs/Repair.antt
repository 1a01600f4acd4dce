-- The repair of damaged page heads (paper 02, S-15): its questions, what it returns, and what it leaves in the output.
-- Assumes nothing.
use Rattle.std.specs.Prelude.{Bool, not, ℕ, ◌+◌, ◌-◌, ◌*◌, ◌/◌, leb, eqb, length}
use mathlib.Core.List.{List, [], ◌∷◌, ◌++◌, map, flat_map}
use Rattle.format.specs.Seq.{numbers_from, select, up_to}
use Rattle.format.specs.Page.{number_at}
use Rattle.format.specs.Question.{Question, Outcome, filled, image_questions, settle}
use Rattle.repair.specs.Numbers.{all_yes, restored}

-- the places of the 16-bit numbers that are worked out: key count and root counts, and each page's T and B
unfoldable pub page_places : ℕ → List ℕ
page_places p = 64 * p ∷ (64 * p + 2) ∷ []

unfoldable pub number_places : List ℕ → List ℕ
number_places img = map (λ k. 6 + 4 * k) (up_to 9) ++ flat_map page_places (numbers_from 1 (length img / 64 - 1))

-- how many of these numbers differ between two images of one length
unfoldable pub differing : List ℕ → List ℕ → ℕ
differing a b = length (select (λ at. not (eqb (number_at a at) (number_at b at))) (number_places a))

-- 37: the image with its numbers worked out afresh is accepted; in the kept bytes it agrees in any case
unfoldable pub is_repairable : List ℕ → Bool
is_repairable img = all_yes (image_questions (restored img))

unfoldable pub repair_questions : List ℕ → List ℕ → List Question
repair_questions img buffer = (17, leb (length img) (length buffer)) ∷ (37, is_repairable img) ∷ []

-- returns how many numbers it altered, and fills just the first bytes of the output
unfoldable pub repair : List ℕ → List ℕ → Outcome ℕ
repair img buffer = settle (repair_questions img buffer) (differing img (restored img))

unfoldable pub buffer_after_repair : List ℕ → List ℕ → List ℕ
buffer_after_repair img buffer = filled (repair img buffer) (restored img) buffer
