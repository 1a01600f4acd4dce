-- A page's bytes: numbers of two bytes, nodes four to a byte, and the levels in the row of pairs.
-- Assumes nothing.
use mathlib.Core.Path.{◌≡◌, refl, sym, ap, ap₂, ◌∙◌}
use mathlib.Core.Bool.{true}
use mathlib.Core.List.{List, [], ◌∷◌, ◌++◌, flat_map, flatten, append_assoc}
use Prim.Native.Nat.{ℕ, zero, suc, ◌+◌, ◌-◌, ◌*◌, ◌/◌, ◌%◌, ◌≤◌, ◌<◌}
use native.Mathlib.Nat.{add-zero}
use native.Mathlib.Numerals.{add-one}
use native.Mathlib.Omega.{arith}
use borrow.Author.Tests.{eqb-true, leb-true, eq-eqb, le-leb}
use lib.ListN.{length, get_or, take, drop, replicate, length-append, length-drop, take-append-drop}
use lib.Seq.{take_at, drop_at, take-add, drop-drop, drop-cons, get_or-drop, length-take-le}
use Rattle.format.specs.Seq.{All, every}
use Rattle.format.specs.Trie.{on_bits}
use Rattle.format.specs.Page.{Byte, byte_of, levels_in, node_bytes, node_count, number_at, pairs_at, pairs_of, two_bytes}
use Rattle.format.specs.Question.{is_positive, is_zero}
use Rattle.format.specs.Writer.{page_bytes}
use Rattle.format.proofs.Lists.{all_append, all_take, all_drop, all_get, all_to, every_all, all_every}
use Rattle.format.proofs.Trie.{Shape, Nodes}
use Rattle.format.proofs.Subtries.{nodes_append}

-- ---- numbers of two bytes

-- written, and found there again
pub number_of : (l : List ℕ) (at n : ℕ) (rest : List ℕ) → drop at l ≡ two_bytes n ++ rest → number_at l at ≡ n
unfolding number_at two_bytes
number_of l at n rest e =
    let hi : get_or l at 0 ≡ n / 256 = ap (λ (k : ℕ). get_or l k 0) (sym (add-zero at)) ∙ sym (get_or-drop at l 0 0) ∙ ap (λ (d : List ℕ). get_or d 0 0) e in
    let lo : get_or l (at + 1) 0 ≡ n % 256 = sym (get_or-drop at l 1 0) ∙ ap (λ (d : List ℕ). get_or d 1 0) e in
    omega arith

-- read, and written again
two_of : (x y : ℕ) → y < 256 → two_bytes (256 * x + y) ≡ x ∷ y ∷ []
unfolding two_bytes
two_of x y h = λ i. hi i ∷ lo i ∷ []
  where
    hi : (256 * x + y) / 256 ≡ x
    hi = omega arith

    lo : (256 * x + y) % 256 ≡ y
    lo = omega arith

pub two_bytes_back : (l : List ℕ) (at : ℕ) → at + 2 ≤ length l → All Byte l → two_bytes (number_at l at) ≡ take 2 (drop at l)
unfolding number_at
two_bytes_back l at h a =
    let d₁ = drop-cons l at 0 (omega arith) in
    let d₂ = drop-cons l (suc at) 0 (omega arith) in
    rw (add-one at) (two_of (get_or l at 0) (get_or l (suc at) 0) (all_get Byte l (suc at) 0 (omega arith) a))
    ∙ sym (ap (take 2) (d₁ ∙ ap (get_or l at 0 ∷◌) d₂))

pub number_small : (l : List ℕ) (at : ℕ) → All Byte l → number_at l at < 65536
unfolding number_at
number_small l at a = omega (arith, all_get Byte l at 0 (omega arith) a, all_get Byte l (at + 1) 0 (omega arith) a)

pub two_bytes_small : (n : ℕ) → n < 65536 → All Byte (two_bytes n)
unfolding two_bytes
two_bytes_small n h = (omega arith, (omega arith, tt))

-- ---- nodes, four to a byte

pub length_pairs : (bs : List ℕ) → length (flat_map pairs_of bs) ≡ 4 * length bs
unfolding flat_map pairs_of
length_pairs [] = refl
length_pairs (b ∷ bs) = omega (arith, length_pairs bs)

pub pairs_small : (bs : List ℕ) → All Byte bs → All (λ p. p ≤ 3) (flat_map pairs_of bs)
unfolding flat_map pairs_of
pairs_small [] h = tt
pairs_small (b ∷ bs) h = let k : b < 256 = h.0 in (omega arith, (omega arith, (omega arith, (omega arith, pairs_small bs h.1))))

pub length-node_bytes : (n : ℕ) (ns : List ℕ) → length (node_bytes n ns) ≡ n
unfolding node_bytes
length-node_bytes zero ns = refl
length-node_bytes (suc n) ns = ap suc (length-node_bytes n (drop 4 ns))

pub node_bytes_small : (n : ℕ) (ns : List ℕ) → All (λ x. x ≤ 3) ns → All Byte (node_bytes n ns)
unfolding node_bytes byte_of
node_bytes_small zero ns h = tt
node_bytes_small (suc n) ns h = (
  omega (arith, all_get (λ x. x ≤ 3) ns 0 0 (omega arith) h, all_get (λ x. x ≤ 3) ns 1 0 (omega arith) h, all_get (λ x. x ≤ 3) ns 2 0 (omega arith) h, all_get (λ x. x ≤ 3) ns 3 0 (omega arith) h),
  node_bytes_small n (drop 4 ns) (all_drop (λ x. x ≤ 3) 4 ns h),
)

-- the bytes of two lists that have the same numbers, and else zeros
node_bytes_same : (n : ℕ) (xs ys : List ℕ) → ((i : ℕ) → get_or xs i 0 ≡ get_or ys i 0) → node_bytes n xs ≡ node_bytes n ys
unfolding node_bytes byte_of
node_bytes_same zero xs ys h = refl
node_bytes_same (suc n) xs ys h =
    λ i. (64 * h 0 i + 16 * h 1 i + 4 * h 2 i + h 3 i) ∷ node_bytes_same n (drop 4 xs) (drop 4 ys) (λ j. get_or-drop 4 xs j 0 ∙ h (4 + j) ∙ sym (get_or-drop 4 ys j 0)) i

then_zeros : (ns zs : List ℕ) → All (λ z. z ≡ 0) zs → (i : ℕ) → get_or (ns ++ zs) i 0 ≡ get_or ns i 0
then_zeros [] zs h i = all_get (λ z. z ≡ 0) zs i 0 refl h
then_zeros (n ∷ ns) zs h zero = refl
then_zeros (n ∷ ns) zs h (suc i) = then_zeros ns zs h i

node_bytes_pairs : (bs : List ℕ) → node_bytes (length bs) (flat_map pairs_of bs) ≡ bs
unfolding flat_map pairs_of node_bytes byte_of
node_bytes_pairs [] = refl
node_bytes_pairs (b ∷ bs) = λ i. byte b i ∷ node_bytes_pairs bs i
  where
    byte : (b : ℕ) → 64 * (b / 64) + 16 * (b / 16 % 4) + 4 * (b / 4 % 4) + b % 4 ≡ b
    byte b = omega arith

-- bytes whose pairs are nodes and then zeros are the bytes of those nodes
pub bytes_back : (bs ns zs : List ℕ) → flat_map pairs_of bs ≡ ns ++ zs → All (λ z. z ≡ 0) zs → node_bytes (length bs) ns ≡ bs
bytes_back bs ns zs e h =
    node_bytes_same (length bs) ns (flat_map pairs_of bs) (λ i. sym (ap (λ (l : List ℕ). get_or l i 0) e ∙ then_zeros ns zs h i)) ∙ node_bytes_pairs bs

four : (a b c d : ℕ) → a ≤ 3 → b ≤ 3 → c ≤ 3 → d ≤ 3 → pairs_of (64 * a + 16 * b + 4 * c + d) ≡ a ∷ b ∷ c ∷ d ∷ []
unfolding pairs_of
four a b c d ha hb hc hd = cons (omega arith) (cons (omega arith) (cons (omega arith) (cons (omega arith) refl)))
  where
    cons : {x y : ℕ} {xs ys : List ℕ} → x ≡ y → xs ≡ ys → x ∷ xs ≡ y ∷ ys
    cons p q = ap₂ {C = List ℕ} (λ (h : ℕ) (l : List ℕ). h ∷ l) p q

no_pairs : (n : ℕ) → flat_map pairs_of (node_bytes n []) ≡ replicate (4 * n) 0
unfolding flat_map node_bytes byte_of pairs_of
no_pairs zero = refl
no_pairs (suc n) = ap {B = List ℕ} (λ l. 0 ∷ 0 ∷ 0 ∷ 0 ∷ l) (no_pairs n) ∙ ap (λ (k : ℕ). replicate {A = ℕ} k 0) (more n)
  where
    more : (n : ℕ) → suc (suc (suc (suc (4 * n)))) ≡ 4 * suc n
    more n = omega arith

zeros : (xs : List ℕ) (k m : ℕ) → k ≡ m → xs ++ replicate k 0 ≡ xs ++ replicate m 0
zeros xs k m e = ap (λ (j : ℕ). xs ++ replicate j 0) e

-- nodes written are found again, then zeros
pub pairs_back : (n : ℕ) (ns : List ℕ) → Nodes ns → length ns ≤ 4 * n → flat_map pairs_of (node_bytes n ns) ≡ ns ++ replicate (4 * n - length ns) 0
unfolding flat_map node_bytes byte_of
pairs_back n [] h f = no_pairs n ∙ zeros [] (4 * n) (4 * n - 0) (omega arith)
pairs_back zero (a ∷ ns) h f = absurd (omega arith)
pairs_back (suc n) (a ∷ []) h f =
    ap₂ ◌++◌ (four a 0 0 0 (omega arith) (omega arith) (omega arith) (omega arith)) (no_pairs n) ∙ zeros (a ∷ []) (suc (suc (suc (4 * n)))) (4 * suc n - 1) (omega arith)
pairs_back (suc n) (a ∷ b ∷ []) h f =
    ap₂ ◌++◌ (four a b 0 0 (omega arith) (omega arith) (omega arith) (omega arith)) (no_pairs n) ∙ zeros (a ∷ b ∷ []) (suc (suc (4 * n))) (4 * suc n - 2) (omega arith)
pairs_back (suc n) (a ∷ b ∷ c ∷ []) h f =
    ap₂ ◌++◌ (four a b c 0 (omega arith) (omega arith) (omega arith) (omega arith)) (no_pairs n) ∙ zeros (a ∷ b ∷ c ∷ []) (suc (4 * n)) (4 * suc n - 3) (omega arith)
pairs_back (suc n) (a ∷ b ∷ c ∷ d ∷ ns) h f =
    ap₂ ◌++◌ (four a b c d (omega arith) (omega arith) (omega arith) (omega arith)) (pairs_back n ns h.2.2.2.2 (omega arith))
    ∙ zeros (a ∷ b ∷ c ∷ d ∷ ns) (4 * n - length ns) (4 * suc n - suc (suc (suc (suc (length ns))))) (omega arith)

-- ---- a page's levels in its row of pairs

pub length-levels_in : (n r : ℕ) (ps : List ℕ) → length (levels_in n r ps) ≡ n
unfolding levels_in
length-levels_in zero r ps = refl
length-levels_in (suc n) r ps = ap suc (length-levels_in n (on_bits (take r ps)) (drop r ps))

-- written one after the other they are found again, whatever comes after them
pub levels_found : (r : ℕ) (page : List (List ℕ)) (rest : List ℕ) → Shape r page → levels_in (length page) r (flatten page ++ rest) ≡ page
unfolding levels_in flatten
levels_found r [] rest s = refl
levels_found r (ns ∷ page) rest s =
    rw (append_assoc ns (flatten page) rest, take_at ns (flatten page ++ rest) r s.0, drop_at ns (flatten page ++ rest) r s.0)
    (ap {B = List (List ℕ)} (λ l. ns ∷ l) (levels_found (on_bits ns) page rest s.2))

pub length-flatten : (r : ℕ) (page : List (List ℕ)) → Shape r page → length (flatten page) ≡ node_count r page
unfolding flatten node_count
length-flatten r [] s = refl
length-flatten r (ns ∷ page) s = length-append ns (flatten page) ∙ omega (arith, s.0, length-flatten (on_bits ns) page s.2)

pub nodes_flatten : (r : ℕ) (page : List (List ℕ)) → Shape r page → Nodes (flatten page)
unfolding flatten
nodes_flatten r [] s = tt
nodes_flatten r (ns ∷ page) s = nodes_append ns (flatten page) s.1 (nodes_flatten (on_bits ns) page s.2)

-- read, they are the first of the pairs
pub levels_join : (n r : ℕ) (ps : List ℕ) → ps ≡ flatten (levels_in n r ps) ++ drop (node_count r (levels_in n r ps)) ps
unfolding levels_in flatten node_count
levels_join zero r ps = refl
levels_join (suc n) r ps =
    let L = levels_in n (on_bits (take r ps)) (drop r ps) in
    sym (take-append-drop r ps)
    ∙ ap (take r ps ++◌) (levels_join n (on_bits (take r ps)) (drop r ps) ∙ ap (flatten L ++◌) (drop-drop (node_count (on_bits (take r ps)) L) r ps))
    ∙ sym (append_assoc (take r ps) (flatten L) (drop (r + node_count (on_bits (take r ps)) L) ps))

are_nodes : (ns : List ℕ) → All (λ x. x ≤ 3) ns → every is_positive ns ≡ true → Nodes ns
unfolding is_positive
are_nodes ns h e = go ns h (every_all is_positive ns e)
  where
    go : (ns : List ℕ) → All (λ x. x ≤ 3) ns → All (λ x. is_positive x ≡ true) ns → Nodes ns
    go [] h k = tt
    go (n ∷ ns) h k = (leb-true 1 n k.0, h.0, go ns h.1 k.1)

pub levels_shape : (n r : ℕ) (ps : List ℕ) → All (λ x. x ≤ 3) ps → node_count r (levels_in n r ps) ≤ length ps → All (λ l. every is_positive l ≡ true) (levels_in n r ps) → Shape r (levels_in n r ps)
unfolding levels_in node_count
levels_shape zero r ps h k e = tt
levels_shape (suc n) r ps h k e = (
  length-take-le r ps (omega arith),
  are_nodes (take r ps) (all_take (λ x. x ≤ 3) r ps h) e.0,
  levels_shape n (on_bits (take r ps)) (drop r ps) (all_drop (λ x. x ≤ 3) r ps h) (omega (arith, length-drop r ps)) e.1,
)

pub nodes_positive : (ns : List ℕ) → Nodes ns → every is_positive ns ≡ true
unfolding is_positive every
nodes_positive [] h = refl
nodes_positive (n ∷ ns) h = rw (le-leb 1 n h.0) (nodes_positive ns h.2)

pub shape_positive : (r : ℕ) (page : List (List ℕ)) → Shape r page → every (every is_positive) page ≡ true
unfolding every
shape_positive r [] s = refl
shape_positive r (ns ∷ page) s = rw (nodes_positive ns s.1) (shape_positive (on_bits ns) page s.2)

pub nodes_small : (ns : List ℕ) → Nodes ns → All (λ x. x ≤ 3) ns
nodes_small [] h = tt
nodes_small (n ∷ ns) h = (h.1, nodes_small ns h.2)

pub all_zero_lem : (l : List ℕ) → every is_zero l ≡ true → All (λ z. z ≡ 0) l
unfolding is_zero
all_zero_lem l h = all_to (λ z. is_zero z ≡ true) (λ z. z ≡ 0) (λ x e. eqb-true x 0 e) l (every_all is_zero l h)

pub zero_all : (l : List ℕ) → All (λ z. z ≡ 0) l → every is_zero l ≡ true
unfolding is_zero
zero_all l h = all_every is_zero l (all_to (λ z. z ≡ 0) (λ z. is_zero z ≡ true) (λ x e. eq-eqb x 0 e) l h)

pub zeros_all : (n : ℕ) → All {A = ℕ} (λ z. z ≡ 0) (replicate n 0)
zeros_all zero = tt
zeros_all (suc n) = (refl, zeros_all n)

pub zeros_are : (l : List ℕ) → All (λ z. z ≡ 0) l → l ≡ replicate (length l) 0
zeros_are [] h = refl
zeros_are (x ∷ l) h = λ i. h.0 i ∷ zeros_are l h.1 i

-- ---- a page's 64 bytes

pub length-page_bytes : (t b : ℕ) (page : List (List ℕ)) → length (page_bytes t b page) ≡ 64
unfolding page_bytes two_bytes
length-page_bytes t b page = omega (arith, length-node_bytes 60 (flatten page))

pub page_bytes_small : (t b r : ℕ) (page : List (List ℕ)) → t < 65536 → b < 65536 → Shape r page → All Byte (page_bytes t b page)
unfolding page_bytes
page_bytes_small t b r page h k s =
    all_append Byte (two_bytes t ++ two_bytes b) (node_bytes 60 (flatten page)) (all_append Byte (two_bytes t) (two_bytes b) (two_bytes_small t h) (two_bytes_small b k))
    (node_bytes_small 60 (flatten page) (nodes_small (flatten page) (nodes_flatten r page s)))

module _ (img : List ℕ) (at : ℕ) (within : at + 64 ≤ length img) (a : All Byte img) where
  pub block_parts : take 64 (drop at img) ≡ take 2 (drop at img) ++ take 2 (drop (at + 2) img) ++ take 60 (drop (at + 4) img)
  block_parts =
      let e : at + 2 + 2 ≡ at + 4 = omega arith in
      take-add 2 62 (drop at img)
      ∙ ap (λ (l : List ℕ). take 2 (drop at img) ++ take 62 l) (drop-drop 2 at img)
      ∙ ap (take 2 (drop at img) ++◌) (take-add 2 60 (drop (at + 2) img) ∙ ap (λ (l : List ℕ). take 2 (drop (at + 2) img) ++ take 60 l) (drop-drop 2 (at + 2) img ∙ ap (λ (n : ℕ). drop n img) e))
      ∙ sym (append_assoc (take 2 (drop at img)) (take 2 (drop (at + 2) img)) (take 60 (drop (at + 4) img)))

  pub length_block : length (take 60 (drop (at + 4) img)) ≡ 60
  length_block = length-take-le 60 (drop (at + 4) img) (omega (arith, length-drop (at + 4) img))

  -- a page with its nodes and then zeros is the page that the writer gives for what is read there
  pub page_back : (r : ℕ) (ps : List ℕ) → ps ≡ pairs_at img at → every is_zero (drop (node_count r (levels_in 4 r ps)) ps) ≡ true
      → page_bytes (number_at img at) (number_at img (at + 2)) (levels_in 4 r ps) ≡ take 64 (drop at img)
  unfolding page_bytes
  page_back r ps e z =
      let two : two_bytes (number_at img at) ≡ take 2 (drop at img) = two_bytes_back img at (omega arith) a in
      let next : two_bytes (number_at img (at + 2)) ≡ take 2 (drop (at + 2) img) = two_bytes_back img (at + 2) (omega arith) a in
      let nodes : node_bytes 60 (flatten (levels_in 4 r ps)) ≡ take 60 (drop (at + 4) img) =
      ap (λ (n : ℕ). node_bytes n (flatten (levels_in 4 r ps))) (sym length_block)
      ∙ bytes_back (take 60 (drop (at + 4) img)) (flatten (levels_in 4 r ps)) (drop (node_count r (levels_in 4 r ps)) ps) (sym e ∙ levels_join 4 r ps) (all_zero_lem _ z) in
      (λ i. two i ++ next i ++ nodes i) ∙ sym block_parts
