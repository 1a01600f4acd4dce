-- Questions 8 to 12 of a page as its place in the bytes and the pages before it put them.
-- Assumes nothing.
use Rattle.std.specs.Prelude.{◌≡◌, ◌&&◌, IfOk, Result, List, [], ◌∷◌, map, ℕ, ◌+◌, ◌-◌, ◌*◌, ◌≤◌, eqb, length, get_or}
use Rattle.format.specs.Seq.{total}
use Rattle.format.specs.Trie.{on_bits}
use Rattle.format.specs.Page.{first_subtries, levels_in, node_count, number_at, pairs_at}
use Rattle.format.specs.Image.{bands, page_count, pages_before}
use Rattle.format.specs.Question.{Outcome, Question, first_no, no_room, one_to, questions_from_9, settle}
use Rattle.nodes.specs.Words.{ones_before}
use Rattle.checker.specs.declared.page.Shape.{Shape}
use Rattle.format.specs.declared.refusal.Refusal.{Refusal}
use Rattle.format.specs.Refusal.{refusal_of}

-- 9 of a page whose first root is t, where next is the first after it: how many roots it has
unfoldable pub roots_from : ℕ → ℕ → Outcome ℕ
roots_from t next = settle ((9, one_to 60 (next - t)) ∷ []) (next - t)

-- where the third and the fourth level of a page of r roots start, from its words
abbrev pub third_in : List ℕ → List ℕ → ℕ → ℕ
third_in word before r = r + ones_before word before r

abbrev pub fourth_in : List ℕ → List ℕ → ℕ → ℕ
fourth_in word before r = r + ones_before word before (third_in word before r)

-- the nodes of the first subtrie of a page of r roots
abbrev pub first_nodes : ℕ → List ℕ → ℕ
first_nodes r pairs = node_count 1 (first_subtries 1 (levels_in 4 r pairs))

-- 9 to 12 of the page at a place, of r roots, where the page before has so many nodes
unfoldable pub questions_after : List ℕ → ℕ → ℕ → ℕ → List Question
questions_after img at r previous = questions_from_9 r (pairs_at img at) (no_room previous (levels_in 4 r (pairs_at img at)))

-- 8 to 12, where the band's roots below t and its out-links below b stand before the page, and next is the first root after it
unfoldable pub questions_at : List ℕ → ℕ → ℕ → ℕ → ℕ → ℕ → List Question
questions_at img at t b next previous = (8, eqb (number_at img at) t && eqb (number_at img (at + 2)) b) ∷ questions_after img at (next - t) previous

-- what is counted in a page of r roots that gets a yes throughout
pub record Counted (pairs : List ℕ) (r : ℕ) (s : Shape) : Type 0 where
  pub nodes_are : s.nodes ≡ node_count r (levels_in 4 r pairs)
  pub links_are : s.links ≡ on_bits (get_or (levels_in 4 r pairs) 3 [])

-- no count is larger
pub record Bounded (s : Shape) : Type 0 where
  pub few_nodes : s.nodes ≤ 240
  pub few_links : s.links ≤ 480

-- what is found of a page of r roots that is asked questions: the first no, or the counts where there is none
pub record Asked (questions : List Question) (pairs : List ℕ) (r : ℕ) (s : Result Shape Refusal) : Type 0 where
  pub first_no_is : refusal_of s ≡ first_no questions
  pub counted : IfOk s (Counted pairs r)
  pub bounded : IfOk s Bounded

-- ---- where the pages stand

-- the length is what the page counts ask
pub record Sized (img : List ℕ) : Type 0 where
  pub long : 64 ≤ length img
  pub size : length img ≡ 64 * (1 + total (map (page_count img) bands))

-- band b's first page is page `first` of the image
pub record BandAt (img : List ℕ) (b first : ℕ) : Type 0 where
  pub sized : Sized img
  pub lo : 1 ≤ b
  pub hi : b ≤ 8
  pub first_is : first ≡ 1 + pages_before img b
