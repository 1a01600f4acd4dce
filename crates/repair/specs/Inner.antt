-- What the inner functions of the repair find and fill.
-- Assumes nothing.
use Rattle.std.specs.Prelude.{◌≡◌, Bool, true, cond, not, List, [], map, ℕ, ◌+◌, ◌-◌, ◌*◌, ◌/◌, ◌%◌, ◌^◌, ◌≤◌, ◌<◌, eqb, length, get_or, drop}
use Rattle.format.specs.Seq.{All, every, select}
use Rattle.format.specs.Trie.{on_bits}
use Rattle.format.specs.Page.{levels_in, node_count, number_at}
use Rattle.format.specs.Image.{page_count}
use Rattle.format.specs.Question.{Yes, is_zero, node_questions}
use Rattle.nodes.specs.Words.{pairs_in}
use Rattle.checker.specs.Paged.{BandAt, fourth_in, third_in}
use Rattle.repair.specs.declared.roots.Found.{Found}
use Rattle.repair.specs.declared.roots.Levels.{Levels}
use Rattle.repair.specs.declared.judge.Held.{Held}
use Rattle.repair.specs.declared.judge.Sums.{Sums}
use Rattle.repair.specs.Numbers.{all_yes, band_links, band_roots, put_numbers, restored, roots_held, row_questions}
use Rattle.repair.specs.Repair.{is_repairable}
use Rattle.repair.specs.Sound.{SoundPage}

-- ---- a page

-- with no other number of roots 9 to 11 get a yes; 0: with none
pub record OnlyRoots (pairs : List ℕ) (r : ℕ) : Type 0 where
  pub few : r ≤ 60
  pub only : (q : ℕ) → All Yes (node_questions q pairs) → q ≡ r

-- a word's last r nodes are 00, and the one before them, if any, is not
pub record EmptyAfter (w r : ℕ) : Type 0 where
  pub few : r ≤ 32
  pub zeros : (m : ℕ) → m < r → w / 2 ^ (2 * m) % 4 ≡ 0
  pub none : w ≡ 0 → r ≡ 32
  pub node : (w ≡ 0 → ⊥) → (r ≤ 31) × (1 ≤ w / 2 ^ (2 * r) % 4)

-- the pairs from n on are 00, and the one before, if any, is not
pub record NodesEnd (pairs : List ℕ) (n : ℕ) : Type 0 where
  pub few : n ≤ 240
  pub zeros : (p : ℕ) → n ≤ p → p < 240 → get_or pairs p 0 ≡ 0
  pub node : 1 ≤ n → 1 ≤ get_or pairs (n - 1) 0

-- where the levels of a page of r roots start, and where it ends: after its last node, or somewhere past the page
pub record LevelsOf (word counts : List ℕ) (r : ℕ) (l : Levels) : Type 0 where
  pub third_is : l.third ≡ third_in word counts r
  pub fourth_is : l.fourth ≡ fourth_in word counts r
  pub end_is : l.end ≤ 240 → l.end ≡ node_count r (levels_in 4 r (pairs_in word))
  pub past : 240 < l.end → 240 < node_count r (levels_in 4 r (pairs_in word))
  pub some : 1 ≤ l.end
  pub few : l.end ≤ 540

-- the only number of roots of a page, where its levels start, and where its nodes end: 11 gets a yes with it
pub record FoundRoots (word counts : List ℕ) (f : Found) : Type 0 where
  pub only : OnlyRoots (pairs_in word) f.roots
  pub some : 1 ≤ f.roots
  pub third_is : f.third ≡ third_in word counts f.roots
  pub fourth_is : f.fourth ≡ fourth_in word counts f.roots
  pub end_is : f.end ≡ node_count f.roots (levels_in 4 f.roots (pairs_in word))
  pub fits : f.end ≤ 240
  pub zeros : every is_zero (drop f.end (pairs_in word)) ≡ true

-- the roots held in a page, where 9 to 12 get a yes with them; else 0
unfoldable pub roots_after : List ℕ → ℕ → ℕ
roots_after pairs previous = cond (all_yes (row_questions (roots_held pairs) pairs previous)) (roots_held pairs) 0

pub record PageHeld (pairs : List ℕ) (previous : ℕ) (h : Held) : Type 0 where
  pub some : 1 ≤ h.roots
  pub roots_are : h.roots ≡ roots_after pairs previous
  pub nodes_are : h.nodes ≡ node_count (roots_held pairs) (levels_in 4 (roots_held pairs) pairs)
  pub links_are : h.links ≡ on_bits (get_or (levels_in 4 (roots_held pairs) pairs) 3 [])
  pub few_roots : h.roots ≤ 60
  pub few_nodes : h.nodes ≤ 240
  pub few_links : h.links ≤ 65535

-- ---- a band, and the image

-- T and B of the pages before page p of the image are noted, those of page q at place q - 1
pub record HeadsNoted (img : List ℕ) (p : ℕ) (t b : List ℕ) : Type 0 where
  pub t_size : length t ≡ 384
  pub b_size : length b ≡ 384
  pub t_noted : (q : ℕ) → 1 ≤ q → q < p → get_or t (q - 1) 0 ≡ number_at (restored img) (64 * q)
  pub b_noted : (q : ℕ) → 1 ≤ q → q < p → get_or b (q - 1) 0 ≡ number_at (restored img) (64 * q + 2)

-- band b starts at page `first`, ends within 384 pages, and the pages before it are noted
pub record BandReady (img : List ℕ) (b first : ℕ) (ts bs : List ℕ) : Type 0 where
  pub at : BandAt img b first
  pub few : first + page_count img b ≤ 385
  pub noted : HeadsNoted img first ts bs

-- band b's pages are sound, these are its roots and out-links, and its T's and B's are noted
pub record SoundBand (img : List ℕ) (b first : ℕ) (ts bs : List ℕ) (s : Sums) : Type 0 where
  pub page : (i : ℕ) → i < page_count img b → SoundPage img b i
  pub roots_are : s.roots.0 ≡ band_roots img b
  pub links_are : s.links.0 ≡ band_links img b
  pub few_roots : s.roots.0 ≤ 23040
  pub few_links : s.links.0 ≤ 4096
  pub noted : HeadsNoted img (first + page_count img b) ts bs

-- the header's numbers are noted, and every number of the restored image
abbrev pub CountsNoted : List ℕ → List ℕ → Type 0
CountsNoted img counts = (k : ℕ) → k < 9 → get_or counts k 0 ≡ number_at (restored img) (6 + 4 * k)

pub record Noted (img counts ts bs : List ℕ) : Type 0 where
  pub counted : CountsNoted img counts
  pub heads : HeadsNoted img (length img / 64) ts bs

-- an image whose length is whole pages, 384 at most
pub record Whole (img : List ℕ) : Type 0 where
  pub long : 64 ≤ length img
  pub whole : length img ≡ 64 * (length img / 64)
  pub few : length img / 64 ≤ 385

pub record Judged (img counts ts bs : List ℕ) (r : Bool) : Type 0 where
  pub is : r ≡ is_repairable img
  pub whole : r ≡ true → Whole img
  pub noted : r ≡ true → Noted img counts ts bs

-- ---- numbers put into the output

-- the restored image's numbers at some places, and how many of them differ from the image's
abbrev pub fresh : List ℕ → List ℕ → List (ℕ × ℕ)
fresh img places = map (λ at. (at, number_at (restored img) at)) places

abbrev pub altered : List ℕ → List ℕ → ℕ
altered img places = length (select (λ at. not (eqb (number_at img at) (number_at (restored img) at))) places)

-- they are put, and counted where they differ
pub record Filled (img places out after : List ℕ) (r : ℕ) : Type 0 where
  pub put : after ≡ put_numbers out (fresh img places)
  pub counted : r ≡ altered img places
  pub few : r ≤ length places

pub record FillReady (img out : List ℕ) : Type 0 where
  pub whole : Whole img
  pub room : length img ≤ length out
