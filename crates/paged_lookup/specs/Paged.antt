-- The eight-page lookup, on every byte sequence: it asks 1 to 7, then reads one page in each band. 8, 12 and 13 are not asked.
-- Assumes nothing.
use Rattle.std.specs.Prelude.{ℕ, zero, suc, ◌+◌, ◌-◌, ◌*◌, Bool, false, not, cond, List, [], ◌∷◌, ◌++◌, eqb, leb, ltb, get_or, take}
use Rattle.format.specs.Seq.{up_to, every}
use Rattle.format.specs.Key.{key_of, key_bit}
use Rattle.format.specs.Trie.{bit, child_at, on_bits}
use Rattle.format.specs.Image.{key_count, page_b, page_count, page_levels, page_number, page_pairs, page_roots, page_t, page_with}
use Rattle.format.specs.Question.{Question, Outcome, returns, settle, and_then, is_zero, header_questions, node_questions, out_links_due}
use Rattle.format.specs.Answer.{LookupAnswer, listed, absent}

-- ---- in a page

-- where a key's bits lead on a level: to a node, which has so many before it; or past an off bit, where no node is the key's, and so many lie left
pub data Way : Type 0 where
  out : ℕ → Way
  off : ℕ → Way

-- that number, and the way with another
unfoldable pub number : Way → ℕ
number (out n) = n
number (off n) = n

unfoldable pub renumbered : (ℕ → ℕ) → Way → Way
renumbered f (out n) = out (f n)
renumbered f (off n) = off (f n)

-- One level down, where the key's bit is the side. An on bit leads to its child. At an off bit the nodes under the on bits left of that place lie left, and past it
-- those under the nodes that lay left.
unfoldable pub step : ℕ → List ℕ → Way → Way
step side ns (out j) = cond (is_zero (bit side (get_or ns j 0))) (off (child_at ns j side)) (out (child_at ns j side))
step side ns (off j) = off (on_bits (take j ns))

-- the way of a key down some levels, the first of which is the trie's level d, from 0
unfoldable pub follow : ℕ → ℕ → List (List ℕ) → Way → Way
follow key d [] way = way
follow key d (ns ∷ levels) way = follow key (suc d) levels (step (key_bit key d) ns way)

-- ---- in a band

-- 27: not every page of band b has a T above a root's number
unfoldable pub has_page : List ℕ → ℕ → ℕ → Bool
has_page img b root = not (every (λ i. ltb root (page_t img b i)) (up_to (page_count img b)))

-- 27, then 9 to 11 of the last page whose T is not above it
unfoldable pub root_questions : List ℕ → ℕ → ℕ → List Question
root_questions img b root = let i = page_with img b root in (27, has_page img b root) ∷ node_questions (page_roots img b i) (page_pairs img b i)

-- through that page: to B plus the page's fourth-level on bits before the one taken; past an off bit to a figure, B plus those that lie left
unfoldable pub way_from : List ℕ → ℕ → ℕ → Way → Way
way_from img key b way =
    let i = page_with img b (number way) in
    renumbered (page_b img b i +◌) (follow key (4 * (b - 1)) (page_levels img b i) (renumbered (◌- page_t img b i) way))

-- whether the number is below m; a figure may be equal to it
unfoldable pub is_below : ℕ → Way → Bool
is_below m (out n) = ltb n m
is_below m (off n) = leb n m

-- 28, on leaving band b: the number is below the next band's root count, or out of band 8 the key count
unfoldable pub leaving : List ℕ → ℕ → Way → Outcome Way
leaving img b way = settle ((28, is_below (out_links_due img b) way) ∷ []) way

-- through band b from a root, or from a figure, which is a root's number too
unfoldable pub through : List ℕ → ℕ → ℕ → Way → Outcome Way
through img key b way = and_then (settle (root_questions img b (number way)) (way_from img key b way)) (leaving img b)

-- ---- all bands

-- whether all keys are smaller: the figure out of band b is equal to the next band's root count, or out of band 8 to the key count
unfoldable pub all_smaller : List ℕ → ℕ → Way → Bool
all_smaller img b (out n) = false
all_smaller img b (off n) = eqb n (out_links_due img b)

-- the answer out of band 8: the rank, or the figure
unfoldable pub answer : List ℕ → Way → LookupAnswer
answer pages (out n) = listed n pages
answer pages (off n) = absent n

-- the walk with n bands to go, where these pages are read so far
unfoldable pub walk : List ℕ → ℕ → ℕ → List ℕ → Way → Outcome LookupAnswer
walk img key zero pages way = returns (answer pages way)
walk img key (suc n) pages way =
    let b = 8 - n in
    let read = pages ++ page_number img b (page_with img b (number way)) ∷ [] in
    and_then (through img key b way) (λ next. cond (all_smaller img b next) (returns (absent (key_count img))) (walk img key n read next))

-- with key count 0 absent, and no key is smaller; else the walk from root 0 of band 1
unfoldable pub paged_answer : List ℕ → ℕ → Outcome LookupAnswer
paged_answer img key = cond (is_zero (key_count img)) (returns (absent 0)) (walk img key 8 [] (out 0))

-- 1 to 7 first
unfoldable pub paged_lookup : List ℕ → ℕ → ℕ → Outcome LookupAnswer
paged_lookup img holder slot = and_then (settle (header_questions img) (key_of holder slot)) (paged_answer img)
