-- Nodes that are not 00, as the low bits that are marked in a page's words. Assumes nothing.
use mathlib.Core.Path.{◌≡◌, refl, sym, ap, ap₂, ◌∙◌}
use mathlib.Core.Bool.{Bool, true, false, ◌&&◌, cond}
use mathlib.Core.List.{List, [], ◌∷◌, ◌++◌, map}
use Prim.Native.Nat.{ℕ, zero, suc, ◌+◌, ◌-◌, ◌*◌, ◌/◌, ◌%◌, ◌^◌, ◌≤◌, ◌<◌}
use native.Mathlib.Nat.{zero-add}
use native.Mathlib.Omega.{arith}
use native.Mathlib.Decide.{ℕ_discrete}
use borrow.Author.Tests.{eq-eqb, ne_eqb, le-leb, ltb-true, ltb-false}
use lib.Dec.{eqb, leb, ltb}
use lib.ListN.{length, take, drop, replicate, length-take, length-drop, length-append}
use lib.Seq.{take-add, take-take}
use lib.Bits.{bit_and, bit_or, and_block, or_block, or_lt}
use Rattle.format.specs.Seq.{All, every}
use Rattle.format.specs.Trie.{bits, on_bits}
use Rattle.format.specs.Page.{Byte, pairs_at}
use Rattle.format.specs.Question.{is_positive, is_zero}
use Rattle.format.proofs.Lists.{all_take, all_drop, all_append}
use Rattle.format.proofs.Subtries.{on_bits-split}
use Rattle.nodes.specs.Words.{low_bits, used_nodes, all_used, none_empty, words_in}
use Rattle.nodes.proofs.Numbers.{Nodes, nodes_same, val, val_take}
use Rattle.nodes.proofs.Gathered.{words_from, nodes_small, length_nodes, words_filled}

-- ---- in one word

-- 1 for a node that is not 00, and 0 for 00
used : ℕ → ℕ
used zero = 0
used (suc d) = 1

-- the low bit of each of k nodes
evens : ℕ → ℕ
evens zero = 0
evens (suc k) = evens k * 4 + 1

marks : ℕ → ℕ → ℕ
marks k w = bit_and (bit_or w (w / 2)) (evens k)

-- in one node d, with the lowest bit q of the node above it
mark : (d q : ℕ) → d ≤ 3 → q < 2 → bit_and (bit_or d (q * 2 + d / 2)) 1 ≡ used d
unfolding used
mark zero zero h p = refl
mark zero (suc zero) h p = refl
mark (suc zero) zero h p = refl
mark (suc zero) (suc zero) h p = refl
mark (suc (suc zero)) zero h p = refl
mark (suc (suc zero)) (suc zero) h p = refl
mark (suc (suc (suc zero))) zero h p = refl
mark (suc (suc (suc zero))) (suc zero) h p = refl
mark zero (suc (suc q)) h p = absurd (omega arith)
mark (suc zero) (suc (suc q)) h p = absurd (omega arith)
mark (suc (suc zero)) (suc (suc q)) h p = absurd (omega arith)
mark (suc (suc (suc zero))) (suc (suc q)) h p = absurd (omega arith)
mark (suc (suc (suc (suc d)))) q h p = absurd (omega arith)

marks_step : (k w d : ℕ) → d ≤ 3 → marks (suc k) (w * 4 + d) ≡ marks k w * 4 + used d
unfolding marks evens
marks_step k w d h =
    let s : ℕ = w % 2 * 2 + d / 2 in
    let e : (w * 4 + d) / 2 ≡ w / 2 * 4 + s = omega arith in
    let low : s < 4 = omega arith in
    ap (λ (x : ℕ). bit_and (bit_or (w * 4 + d) x) (evens k * 4 + 1)) e
    ∙ ap (λ (x : ℕ). bit_and x (evens k * 4 + 1)) (or_block 2 w (w / 2) d s (omega arith) low)
    ∙ and_block 2 (bit_or w (w / 2)) (evens k) (bit_or d s) 1 (or_lt 2 d s (omega arith) low) (omega arith)
    ∙ ap (λ (x : ℕ). bit_and (bit_or w (w / 2)) (evens k) * 4 + x) (mark d (w % 2) h (omega arith))

marks_val : (k n w : ℕ) (ds : List ℕ) → Nodes ds → k + length ds ≡ n → marks n (val w ds) ≡ val (marks k w) (map used ds)
unfolding val
marks_val k n w [] h e =
    let f : n ≡ k = omega arith in
    ap (λ (x : ℕ). marks x w) f
marks_val k n w (d ∷ ds) h e =
    marks_val (suc k) n (w * 4 + d) ds h.1 (omega arith) ∙ ap (λ (x : ℕ). val x (map used ds)) (marks_step k w d h.0)

used_val : (ds : List ℕ) → Nodes ds → length ds ≤ 32 → used_nodes (val 0 ds) ≡ val 0 (map used ds)
unfolding marks evens
used_val ds h l = marks_val (32 - length ds) 32 0 ds h (omega arith)

-- two rows are equal as numbers where no node is 00
and-false : (a : Bool) → false ≡ a && false
and-false true = refl
and-false false = refl

and-true : (a : Bool) → a ≡ a && true
and-true true = refl
and-true false = refl

and_assoc : (a b c : Bool) → (a && b) && c ≡ a && (b && c)
and_assoc true b c = refl
and_assoc false b c = refl

one_more : (a b d : ℕ) → eqb (a * 4 + used d) (b * 4 + 1) ≡ eqb a b && is_positive d
unfolding used is_positive
one_more a b zero = ne_eqb (a * 4 + 0) (b * 4 + 1) (λ e. omega arith) ∙ and-false (eqb a b)
one_more a b (suc d) = elim (ℕ_discrete a b) [
  | yes e ↦ eq-eqb (a * 4 + 1) (b * 4 + 1) (omega arith) ∙ sym (ap₂ ◌&&◌ (eq-eqb a b e) (le-leb 1 (suc d) (omega arith)))
  | no e ↦ ne_eqb (a * 4 + 1) (b * 4 + 1) (λ f. e (omega arith)) ∙ sym (ap (◌&& leb 1 (suc d)) (ne_eqb a b e))
]

same_row : (a b : ℕ) (ds : List ℕ) → eqb (val a (map used ds)) (val b (replicate (length ds) 1)) ≡ eqb a b && every is_positive ds
unfolding val every
same_row a b [] = and-true (eqb a b)
same_row a b (d ∷ ds) =
    same_row (a * 4 + used d) (b * 4 + 1) ds ∙ ap (◌&& every is_positive ds) (one_more a b d) ∙ and_assoc (eqb a b) (is_positive d) (every is_positive ds)

ones-row : (k : ℕ) → k ≤ 32 → low_bits / 2 ^ (64 - 2 * k) ≡ val 0 (replicate k 1)
unfolding val
ones-row k h =
    let e : 64 - 2 * k ≡ 2 * (32 - k) = omega arith in
    ap (λ (x : ℕ). low_bits / 2 ^ x) e ∙ val_take 0 k (32 - k) (replicate 32 1) (omega arith) (nodes_same 1 32 (omega arith)) ∙ ap (val 0) (take-ones k 32 h)
  where
    take-ones : (k n : ℕ) → k ≤ n → take {A = ℕ} k (replicate n 1) ≡ replicate k 1
    take-ones zero n h = refl
    take-ones (suc k) zero h = absurd (omega arith)
    take-ones (suc k) (suc n) h = ap (1 ∷◌) (take-ones k n (omega arith))

-- a word of k nodes
whole_used : (k : ℕ) (ds : List ℕ) → Nodes ds → length ds ≡ k → k ≤ 32 → eqb (used_nodes (val 0 ds)) (val 0 (replicate k 1)) ≡ every is_positive ds
whole_used k ds h e l = ap₂ eqb (used_val ds h (omega arith)) (ap (λ (x : ℕ). val 0 (replicate x 1)) (sym e)) ∙ same_row 0 0 ds

-- a word of 32 nodes
full_used : (ds : List ℕ) → Nodes ds → length ds ≡ 32 → eqb (used_nodes (val 0 ds)) low_bits ≡ every is_positive ds
unfolding val
full_used ds h e = whole_used 32 ds h e (omega arith)

-- the first k nodes of a word
first_used : (k : ℕ) (ds : List ℕ) → Nodes ds → length ds ≡ 32 → k ≤ 32
    → eqb (used_nodes (val 0 ds / 2 ^ (64 - 2 * k))) (low_bits / 2 ^ (64 - 2 * k)) ≡ every is_positive (take k ds)
first_used k ds h e l =
    let f : 64 - 2 * k ≡ 2 * (32 - k) = omega arith in
    ap₂ eqb (ap (λ (x : ℕ). used_nodes (val 0 ds / 2 ^ x)) f ∙ ap used_nodes (val_take 0 k (32 - k) ds (omega arith) h)) (ones-row k l)
    ∙ whole_used k (take k ds) (all_take (λ d. d ≤ 3) k ds h) (omega (arith, length-take k ds)) l

-- ---- in all words

every_append : (a b : List ℕ) → every is_positive (a ++ b) ≡ every is_positive a && every is_positive b
unfolding every
every_append [] b = refl
every_append (x ∷ a) b = ap (is_positive x &&◌) (every_append a b) ∙ sym (and_assoc (is_positive x) (every is_positive a) (every is_positive b))

all_used_lem : (m n : ℕ) (qs : List ℕ) → Nodes qs → length qs ≡ 32 * m → 1 ≤ n → n ≤ 32 * m → all_used (words_from (suc m) qs) n ≡ every is_positive (take n qs)
unfolding all_used words_from
all_used_lem zero n qs h e s l = absurd (omega arith)
all_used_lem (suc m) n qs h e s l = go (ltb 32 n) refl (all_used_lem m (n - 32) (drop 32 qs) (all_drop (λ d. d ≤ 3) 32 qs h) (omega (arith, length-drop 32 qs)))
  where
    small : Nodes (take 32 qs)
    small = all_take (λ d. d ≤ 3) 32 qs h

    long : length (take 32 qs) ≡ 32
    long = omega (arith, length-take 32 qs)

    go : (t : Bool) → ltb 32 n ≡ t → (1 ≤ n - 32 → n - 32 ≤ 32 * m → all_used (words_from (suc m) (drop 32 qs)) (n - 32) ≡ every is_positive (take (n - 32) (drop 32 qs)))
        → cond t (eqb (used_nodes (val 0 (take 32 qs))) low_bits && all_used (words_from (suc m) (drop 32 qs)) (n - 32))
        (eqb (used_nodes (val 0 (take 32 qs) / 2 ^ (64 - 2 * n))) (low_bits / 2 ^ (64 - 2 * n)))
        ≡ every is_positive (take n qs)
    go true t rest =
        let big : 32 < n = ltb-true 32 n t in
        let f : 32 + (n - 32) ≡ n = omega arith in
        ap₂ ◌&&◌ (full_used (take 32 qs) small long) (rest (omega arith) (omega arith))
        ∙ sym (every_append (take 32 qs) (take (n - 32) (drop 32 qs)))
        ∙ ap (every is_positive) (sym (take-add 32 (n - 32) qs) ∙ ap (λ (x : ℕ). take x qs) f)
    go false t rest =
        let low : n ≤ 32 = ltb-false 32 n t in
        first_used n (take 32 qs) small long (omega arith) ∙ ap (every is_positive) (take-take n 32 qs low)

-- none of the first n nodes of a page is 00
pub none_empty_law : (bytes : List ℕ) → All Byte bytes → (at n : ℕ) → at + 64 ≤ length bytes → n ≤ 240
    → none_empty (words_in bytes at) n ≡ every is_positive (take n (pairs_at bytes at))
unfolding none_empty
none_empty_law bytes small at n fits h =
    let ps : List ℕ = pairs_at bytes at in
    let qs : List ℕ = replicate 16 3 ++ ps in
    let f : n + 16 ≡ 16 + n = omega arith in
    ap (λ (ws : List ℕ). all_used ws (n + 16)) (words_filled bytes small at fits)
    ∙ all_used_lem 8 (n + 16) qs (all_append (λ d. d ≤ 3) (replicate 16 3) ps (nodes_same 3 16 (omega arith)) (nodes_small bytes small at fits))
    (length-append (replicate 16 3) ps ∙ omega (arith, length_nodes bytes small at fits)) (omega arith) (omega arith)
    ∙ ap (λ (x : ℕ). every is_positive (take x qs)) f
    ∙ ap (every is_positive) (take-add 16 n qs)
    ∙ (unfold every is_positive in refl)

-- ---- 00 throughout

-- nodes without an on bit are 00
pub all_empty : (ds : List ℕ) → eqb (on_bits ds) 0 ≡ every is_zero ds
unfolding on_bits bits every is_zero
all_empty [] = refl
all_empty (zero ∷ ds) = ap (λ (x : ℕ). eqb x 0) (zero-add (on_bits ds)) ∙ all_empty ds
all_empty (suc d ∷ ds) = ne_eqb (suc d / 2 + suc d % 2 + on_bits ds) 0 (λ e. omega arith) ∙ ap (◌&& every is_zero ds) (sym (ne_eqb (suc d) 0 (λ e. omega arith)))

-- the nodes from n on are 00 where the first n have all on bits
pub rest_empty_law : (ds : List ℕ) (n : ℕ) → eqb (on_bits (take n ds)) (on_bits ds) ≡ every is_zero (drop n ds)
rest_empty_law ds n = elim (ℕ_discrete (on_bits (drop n ds)) 0) [
  | yes e ↦ eq-eqb (on_bits (take n ds)) (on_bits ds) (omega (arith, on_bits-split n ds)) ∙ sym (eq-eqb (on_bits (drop n ds)) 0 e) ∙ all_empty (drop n ds)
  | no e ↦ ne_eqb (on_bits (take n ds)) (on_bits ds) (λ f. e (omega (arith, on_bits-split n ds))) ∙ sym (ne_eqb (on_bits (drop n ds)) 0 e) ∙ all_empty (drop n ds)
]
