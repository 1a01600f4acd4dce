-- Places in a page's row of pairs, and indices in a band's levels.
-- Assumes nothing.
use mathlib.Core.List.{List, [], ◌∷◌, ◌++◌, map, flat_map, flatten, append_assoc}
use mathlib.Core.Path.{◌≡◌, refl, sym, ap, ap₂, ◌∙◌}
use Prim.Native.Nat.{ℕ, zero, suc, ◌+◌, ◌*◌, ◌≤◌, ◌<◌}
use native.Mathlib.Nat.{add-zero, zero-add}
use native.Mathlib.Omega.{arith}
use lib.ListN.{length, get_or, take, drop, length-append, get_or-append}
use lib.Seq.{get_or-append-add, take-append-add, take-append-le}
use Rattle.format.specs.Seq.{numbers_from, total}
use Rattle.format.specs.Trie.{child_at, on_bits}
use Rattle.format.specs.Page.{levels_in, node_count, offset}
use Rattle.format.proofs.Trie.{Nodes, Shape}
use Rattle.format.proofs.Subtries.{on_bits-append}
use Rattle.format.proofs.Bytes.{length-levels_in, levels_join}

-- the on bits of a page's first l levels
abbrev linked : ℕ → List (List ℕ) → ℕ
linked zero page = 0
linked (suc l) [] = 0
linked (suc l) (ns ∷ page) = on_bits ns + linked l page

-- node j of level l stands at place offset + j
pub place_node : (l : ℕ) (page : List (List ℕ)) (rest : List ℕ) (j : ℕ) → l < length page → j < length (get_or page l []) → get_or (flatten page ++ rest) (offset l page + j) 0 ≡ get_or (get_or page l []) j 0
unfolding flatten
place_node l [] rest j h k = absurd (omega arith)
place_node zero (ns ∷ page) rest j h k =
    ap₂ (λ (l : List ℕ) (i : ℕ). get_or l i 0) (append_assoc ns (flatten page) rest) (zero-add j) ∙ get_or-append ns (flatten page ++ rest) 0 j k
place_node (suc l) (ns ∷ page) rest j h k =
    let e : length ns + offset l page + j ≡ length ns + (offset l page + j) = omega arith in
    ap₂ (λ (l : List ℕ) (i : ℕ). get_or l i 0) (append_assoc ns (flatten page) rest) e ∙ get_or-append-add ns (flatten page ++ rest) (offset l page + j) 0 ∙ place_node l page rest j (omega arith) k

place_before : (l : ℕ) (page : List (List ℕ)) (rest : List ℕ) (j : ℕ) → l < length page → j ≤ length (get_or page l []) → on_bits (take (offset l page + j) (flatten page ++ rest)) ≡ linked l page + on_bits (take j (get_or page l []))
unfolding flatten
place_before l [] rest j h k = absurd (omega arith)
place_before zero (ns ∷ page) rest j h k =
    ap₂ (λ (l : List ℕ) (i : ℕ). on_bits (take i l)) (append_assoc ns (flatten page) rest) (zero-add j) ∙ ap on_bits (take-append-le j ns (flatten page ++ rest) k) ∙ sym (zero-add (on_bits (take j ns)))
place_before (suc l) (ns ∷ page) rest j h k =
    let e : length ns + offset l page + j ≡ length ns + (offset l page + j) = omega arith in
    ap₂ (λ (l : List ℕ) (i : ℕ). on_bits (take i l)) (append_assoc ns (flatten page) rest) e
    ∙ ap on_bits (take-append-add ns (flatten page ++ rest) (offset l page + j))
    ∙ on_bits-append ns (take (offset l page + j) (flatten page ++ rest))
    ∙ omega (arith, place_before l page rest j (omega arith) k)

linked_offset : (r l : ℕ) (page : List (List ℕ)) → Shape r page → l < length page → r + linked l page ≡ offset (suc l) page
linked_offset r l [] s h = absurd (omega arith)
linked_offset r zero (ns ∷ page) s h = omega (arith, s.0)
linked_offset r (suc l) (ns ∷ page) s h = omega (arith, s.0, linked_offset (on_bits ns) l page s.2 (omega arith))

-- the roots and the on bits before place p make the place of its first child
pub place_child : (r l : ℕ) (page : List (List ℕ)) (rest : List ℕ) (j : ℕ) → Shape r page → l < length page → j ≤ length (get_or page l [])
    → r + on_bits (take (offset l page + j) (flatten page ++ rest)) ≡ offset (suc l) page + on_bits (take j (get_or page l []))
place_child r l page rest j s h k = omega (arith, place_before l page rest j h k, linked_offset r l page s h)

pub offset_all : (r : ℕ) (page : List (List ℕ)) → Shape r page → offset (length page) page ≡ node_count r page
unfolding node_count
offset_all r [] s = refl
offset_all r (ns ∷ page) s = omega (arith, s.0, offset_all (on_bits ns) page s.2)

pub offset_within : (l : ℕ) (page : List (List ℕ)) → l < length page → offset l page + length (get_or page l []) ≡ offset (suc l) page
offset_within l [] h = absurd (omega arith)
offset_within zero (ns ∷ page) h = omega arith
offset_within (suc l) (ns ∷ page) h = omega (arith, offset_within l page (omega arith))

pub offset_le : (l : ℕ) (page : List (List ℕ)) → offset l page ≤ offset (length page) page
offset_le zero page = omega arith
offset_le (suc l) [] = omega arith
offset_le (suc l) (ns ∷ page) = omega (arith, offset_le l page)

-- each level has as many nodes as the one above has on bits
pub level_next : (r l : ℕ) (page : List (List ℕ)) → Shape r page → suc l < length page → length (get_or page (suc l) []) ≡ on_bits (get_or page l [])
level_next r l [] s h = absurd (omega arith)
level_next r l (ns ∷ []) s h = absurd (omega arith)
level_next r zero (ns ∷ ms ∷ page) s h = s.2.0
level_next r (suc l) (ns ∷ ms ∷ page) s h = level_next (on_bits ns) l (ms ∷ page) s.2 (omega arith)

-- and none of them is 00
pub level_nodes : (r l : ℕ) (page : List (List ℕ)) → Shape r page → l < length page → Nodes (get_or page l [])
level_nodes r l [] s h = absurd (omega arith)
level_nodes r zero (ns ∷ page) s h = s.1
level_nodes r (suc l) (ns ∷ page) s h = level_nodes (on_bits ns) l page s.2 (omega arith)

-- ---- a row of pairs whose four levels hang together

module _ (ps : List ℕ) (r : ℕ) (shaped : Shape r (levels_in 4 r ps)) where
  row-four : length (levels_in 4 r ps) ≡ 4
  row-four = length-levels_in 4 r ps

  pub row_end : offset 4 (levels_in 4 r ps) ≡ node_count r (levels_in 4 r ps)
  row_end = ap (λ (n : ℕ). offset n (levels_in 4 r ps)) (sym row-four) ∙ offset_all r (levels_in 4 r ps) shaped

  -- the roots and the on bits before a node of level l, or before its end, lead to the next level
  pub row_first : (l j : ℕ) → l < 4 → j ≤ length (get_or (levels_in 4 r ps) l []) → r + on_bits (take (offset l (levels_in 4 r ps) + j) ps) ≡ offset (suc l) (levels_in 4 r ps) + on_bits (take j (get_or (levels_in 4 r ps) l []))
  row_first l j lv inner =
      ap (λ (qs : List ℕ). r + on_bits (take (offset l (levels_in 4 r ps) + j) qs)) (levels_join 4 r ps)
      ∙ place_child r l (levels_in 4 r ps) (drop (node_count r (levels_in 4 r ps)) ps) j shaped (omega (arith, row-four)) inner

  -- node j of level l, where it stands in the row, and where its child does
  module _ (l j : ℕ) (lv : l < 4) (inner : j < length (get_or (levels_in 4 r ps) l [])) where
    pub row_within : offset l (levels_in 4 r ps) + j < node_count r (levels_in 4 r ps)
    row_within = omega (arith, row_end, offset_within l (levels_in 4 r ps) (omega (arith, row-four)), offset_le (suc l) (levels_in 4 r ps), ap (λ (n : ℕ). offset n (levels_in 4 r ps)) row-four)

    pub row_node : get_or ps (offset l (levels_in 4 r ps) + j) 0 ≡ get_or (get_or (levels_in 4 r ps) l []) j 0
    row_node =
        ap (λ (qs : List ℕ). get_or qs (offset l (levels_in 4 r ps) + j) 0) (levels_join 4 r ps)
        ∙ place_node l (levels_in 4 r ps) (drop (node_count r (levels_in 4 r ps)) ps) j (omega (arith, row-four)) inner

    pub row_child : (t : ℕ) → r + child_at ps (offset l (levels_in 4 r ps) + j) t ≡ offset (suc l) (levels_in 4 r ps) + child_at (get_or (levels_in 4 r ps) l []) j t
    row_child zero = row_first l j lv (omega arith)
    row_child (suc t) = omega (arith, row_first l j lv (omega arith), row_node)

-- ---- runs one after the other

abbrev pub lengths : (ℕ → List ℕ) → ℕ → ℕ → ℕ
lengths f s i = total (map (λ k. length (f k)) (numbers_from s i))

pub run_at : (f : ℕ → List ℕ) (s n i j : ℕ) → i < n → j < length (f (s + i)) → get_or (flat_map f (numbers_from s n)) (lengths f s i + j) 0 ≡ get_or (f (s + i)) j 0
unfolding flat_map numbers_from total
run_at f s zero i j h k = absurd (omega arith)
run_at f s (suc n) zero j h k =
    let e : f (s + 0) ≡ f s = ap f (add-zero s) in
    ap (λ (m : ℕ). get_or (f s ++ flat_map f (numbers_from (suc s) n)) m 0) (zero-add j) ∙ get_or-append (f s) (flat_map f (numbers_from (suc s) n)) 0 j (rw e at k) ∙ ap (λ (l : List ℕ). get_or l j 0) (sym e)
run_at f s (suc n) (suc i) j h k =
    let e : s + suc i ≡ suc s + i = omega arith in
    let m : length (f s) + lengths f (suc s) i + j ≡ length (f s) + (lengths f (suc s) i + j) = omega arith in
    ap (λ (m : ℕ). get_or (f s ++ flat_map f (numbers_from (suc s) n)) m 0) m
    ∙ get_or-append-add (f s) (flat_map f (numbers_from (suc s) n)) (lengths f (suc s) i + j) 0
    ∙ run_at f (suc s) n i j (omega arith) (rw e at k)
    ∙ ap (λ (t : ℕ). get_or (f t) j 0) (sym e)

pub run_within : (f : ℕ → List ℕ) (s n i j : ℕ) → i < n → j < length (f (s + i)) → lengths f s i + j < length (flat_map f (numbers_from s n))
unfolding flat_map numbers_from total
run_within f s zero i j h k = absurd (omega arith)
run_within f s (suc n) zero j h k =
    let e : f (s + 0) ≡ f s = ap f (add-zero s) in
    let k' : j < length (f s) = rw e at k in
    omega (arith, length-append (f s) (flat_map f (numbers_from (suc s) n)))
run_within f s (suc n) (suc i) j h k =
    let e : s + suc i ≡ suc s + i = omega arith in
    omega (arith, length-append (f s) (flat_map f (numbers_from (suc s) n)), run_within f (suc s) n i j (omega arith) (rw e at k))

pub run_before : (f : ℕ → List ℕ) (s n i j : ℕ) → i < n → j ≤ length (f (s + i))
    → on_bits (take (lengths f s i + j) (flat_map f (numbers_from s n))) ≡ total (map (λ k. on_bits (f k)) (numbers_from s i)) + on_bits (take j (f (s + i)))
unfolding flat_map numbers_from total
run_before f s zero i j h k = absurd (omega arith)
run_before f s (suc n) zero j h k =
    let e : f (s + 0) ≡ f s = ap f (add-zero s) in
    ap (λ (m : ℕ). on_bits (take m (f s ++ flat_map f (numbers_from (suc s) n)))) (zero-add j)
    ∙ ap on_bits (take-append-le j (f s) (flat_map f (numbers_from (suc s) n)) (rw e at k) ∙ ap (take j) (sym e))
    ∙ sym (zero-add (on_bits (take j (f (s + 0)))))
run_before f s (suc n) (suc i) j h k =
    let e : s + suc i ≡ suc s + i = omega arith in
    let m : length (f s) + lengths f (suc s) i + j ≡ length (f s) + (lengths f (suc s) i + j) = omega arith in
    ap (λ (m : ℕ). on_bits (take m (f s ++ flat_map f (numbers_from (suc s) n)))) m
    ∙ ap on_bits (take-append-add (f s) (flat_map f (numbers_from (suc s) n)) (lengths f (suc s) i + j))
    ∙ on_bits-append (f s) (take (lengths f (suc s) i + j) (flat_map f (numbers_from (suc s) n)))
    ∙ omega (arith, run_before f (suc s) n i j (omega arith) (rw e at k), ap (λ (t : ℕ). on_bits (take j (f t))) e)

-- four levels to a band
pub fours_at : (f : ℕ → List (List ℕ)) (s n k l : ℕ) → ((t : ℕ) → s ≤ t → t < s + n → length (f t) ≡ 4) → k < n → l < 4 → get_or (flat_map f (numbers_from s n)) (4 * k + l) [] ≡ get_or (f (s + k)) l []
unfolding flat_map numbers_from
fours_at f s zero k l four h lt = absurd (omega arith)
fours_at f s (suc n) zero l four h lt =
    let e : 4 * 0 + l ≡ l = omega arith in
    ap (λ (m : ℕ). get_or (f s ++ flat_map f (numbers_from (suc s) n)) m []) e ∙ get_or-append (f s) (flat_map f (numbers_from (suc s) n)) [] l (omega (arith, four s (omega arith) (omega arith))) ∙ ap (λ (t : ℕ). get_or (f t) l []) (sym (add-zero s))
fours_at f s (suc n) (suc k) l four h lt =
    let e : 4 * suc k + l ≡ length (f s) + (4 * k + l) = omega (arith, four s (omega arith) (omega arith)) in
    let t : suc s + k ≡ s + suc k = omega arith in
    ap (λ (m : ℕ). get_or (f s ++ flat_map f (numbers_from (suc s) n)) m []) e
    ∙ get_or-append-add (f s) (flat_map f (numbers_from (suc s) n)) (4 * k + l) []
    ∙ fours_at f (suc s) n k l (λ t lo hi. four t (omega arith) (omega arith)) (omega arith) lt
    ∙ ap (λ (t : ℕ). get_or (f t) l []) t
