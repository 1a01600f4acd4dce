-- What the inner functions find: the page of a root, a key's way in it, and through a band.
-- Assumes nothing.
use Rattle.std.specs.Prelude.{◌≡◌, IfOk, Result, Ok, Err, Bool, true, false, List, ℕ, suc, ◌+◌, ◌*◌, ◌≤◌, ◌<◌}
use Rattle.std.proofs.Math.Option.{none}
use Rattle.format.specs.Page.{levels_in, node_count, number_at, offset}
use Rattle.format.specs.Image.{page_number, page_with}
use Rattle.format.specs.Question.{Outcome, first_no, header_questions, node_questions, refused, returns}
use Rattle.format.specs.Refusal.{number_of}
use Rattle.format.specs.declared.refusal.Refusal.{Refusal}
use Rattle.nodes.specs.Words.{Gathered, pairs_in}
use Rattle.paged_lookup.specs.declared.page.Way.{Way}
use Rattle.paged_lookup.specs.declared.page.Way.TheVariants.{Out, Off}
use Rattle.paged_lookup.specs.declared.page.Judged.{Judged}
use Rattle.paged_lookup.specs.declared.band.Step.{Step}
use Rattle.paged_lookup.specs.Paged as paged

-- 1 to 7 get a yes
abbrev pub HeaderYes : List ℕ → Type 0
HeaderYes img = first_no (header_questions img) ≡ none

-- a way by its number, and by whether all bits so far were on
abbrev pub way_at : Bool → ℕ → paged.Way
way_at true n = paged.Way.out n
way_at false n = paged.Way.off n

-- a key's way, or a refusal
abbrev pub way_of : Way → paged.Way
way_of (Out link) = paged.Way.out link.0
way_of (Off figure) = paged.Way.off figure.0

abbrev pub way_outcome : Result Way Refusal → Outcome paged.Way
way_outcome (Ok way) = returns (way_of way)
way_outcome (Err refusal) = refused (number_of refusal)

abbrev pub step_outcome : Result Step Refusal → Outcome paged.Way
step_outcome (Ok step) = returns (way_of step.way)
step_outcome (Err refusal) = refused (number_of refusal)

-- the words of a page of so many roots, which 9 to 11 give a yes
pub record PageIn (word before : List ℕ) (roots : ℕ) : Type 0 where
  pub gathered : Gathered word before
  pub asked : first_no (node_questions roots (pairs_in word)) ≡ none

-- the four levels of such a page
abbrev pub four_levels : List ℕ → ℕ → List (List ℕ)
four_levels word roots = levels_in 4 roots (pairs_in word)

-- such a page, and its number of nodes
pub record JudgedIn (word before : List ℕ) (page : Judged) : Type 0 where
  pub page_in : PageIn word before page.roots
  pub nodes_are : page.nodes ≡ node_count page.roots (four_levels word page.roots)

-- a place of such a page on one of its first three levels, whose last node stands before place `end`
pub record NodeOn (word before : List ℕ) (roots end place : ℕ) : Type 0 where
  pub page_in : PageIn word before roots
  pub level : ℕ
  pub early : level < 3
  pub from : offset level (four_levels word roots) ≤ place
  pub to : place < end
  pub end_is : end ≡ offset (suc level) (four_levels word roots)

-- every page of a band from one on has a T above a root's number
pub record AllAbove (img : List ℕ) (first pages root from : ℕ) : Type 0 where
  pub after : (j : ℕ) → from ≤ j → j < pages → root < number_at img (64 * (first + j))

-- the last page whose T is at or below it
pub record LastUpto (img : List ℕ) (first pages root index : ℕ) : Type 0 where
  pub in_band : index < pages
  pub at : number_at img (64 * (first + index)) ≤ root
  pub after : AllAbove img first pages root (index + 1)

-- through band b from a root, or a figure: where it is left, the page is that of the root's number
pub record StepRight (img : List ℕ) (key b : ℕ) (on : Bool) (root : ℕ) (s : Result Step Refusal) : Type 0 where
  pub outcome : step_outcome s ≡ paged.through img key b (way_at on root)
  pub page_is : IfOk s (λ step. step.page ≡ page_number img b (page_with img b root))
