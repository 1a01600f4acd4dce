-- Levels side by side, and cut between subtries.
-- Assumes nothing.
use mathlib.Core.Path.{◌≡◌, refl, sym, ap, ap₂, ◌∙◌}
use mathlib.Core.List.{List, [], ◌∷◌, ◌++◌}
use Prim.Native.Nat.{ℕ, zero, suc, ◌+◌, ◌-◌, ◌*◌, ◌≤◌}
use native.Mathlib.Omega.{arith}
use lib.ListN.{length, get_or, take, drop, length-append, length-take, length-drop, take-append-drop}
use lib.Seq.{take-append-le, drop-append-le, take_at, drop_at}
use Rattle.format.specs.Seq.{All, total}
use Rattle.format.specs.Trie.{on_bits}
use Rattle.format.specs.Page.{first_subtries, later_subtries, node_count}
use Rattle.format.specs.Writer.{subtrie_sizes}
use Rattle.format.proofs.Trie.{Shape, Nodes}
use Rattle.format.proofs.Shapes.{on_bits_bounds}

pub on_bits-append : (a b : List ℕ) → on_bits (a ++ b) ≡ on_bits a + on_bits b
unfolding on_bits
on_bits-append [] b = omega arith
on_bits-append (x ∷ a) b = omega (arith, on_bits-append a b)

pub on_bits-split : (n : ℕ) (ns : List ℕ) → on_bits (take n ns) + on_bits (drop n ns) ≡ on_bits ns
on_bits-split n ns = sym (on_bits-append (take n ns) (drop n ns)) ∙ ap on_bits (take-append-drop n ns)

pub nodes_append : (a b : List ℕ) → Nodes a → Nodes b → Nodes (a ++ b)
nodes_append [] b h k = k
nodes_append (x ∷ a) b h k = (h.0, h.1, nodes_append a b h.2 k)

pub nodes_take : (n : ℕ) (ns : List ℕ) → Nodes ns → Nodes (take n ns)
nodes_take zero ns h = tt
nodes_take (suc n) [] h = tt
nodes_take (suc n) (x ∷ xs) h = (h.0, h.1, nodes_take n xs h.2)

pub nodes_drop : (n : ℕ) (ns : List ℕ) → Nodes ns → Nodes (drop n ns)
nodes_drop zero ns h = h
nodes_drop (suc n) [] h = tt
nodes_drop (suc n) (x ∷ xs) h = nodes_drop n xs h.2

-- ---- the first n subtries hang together, and so do the later ones

pub first_shape : (n r : ℕ) (band : List (List ℕ)) → n ≤ r → Shape r band → Shape n (first_subtries n band)
unfolding first_subtries
first_shape n r [] le s = tt
first_shape n r (ns ∷ band) le s =
    (length-take n ns ∙ omega arith, nodes_take n ns s.1, first_shape (on_bits (take n ns)) (on_bits ns) band (omega (arith, on_bits-split n ns)) s.2)

pub later_shape : (n r : ℕ) (band : List (List ℕ)) → n ≤ r → Shape r band → Shape (r - n) (later_subtries n band)
unfolding later_subtries
later_shape n r [] le s = tt
later_shape n r (ns ∷ band) le s =
    (length-drop n ns ∙ omega arith, nodes_drop n ns s.1, rw (← left) at (later_shape (on_bits (take n ns)) (on_bits ns) band (omega (arith, on_bits-split n ns)) s.2))
  where
    left : on_bits (drop n ns) ≡ on_bits ns - on_bits (take n ns)
    left = omega (arith, on_bits-split n ns)

pub length_first : (n : ℕ) (band : List (List ℕ)) → length (first_subtries n band) ≡ length band
unfolding first_subtries
length_first n [] = refl
length_first n (ns ∷ band) = ap suc (length_first (on_bits (take n ns)) band)

pub length-later : (n : ℕ) (band : List (List ℕ)) → length (later_subtries n band) ≡ length band
unfolding later_subtries
length-later n [] = refl
length-later n (ns ∷ band) = ap suc (length-later (on_bits (take n ns)) band)

-- ---- side by side

abbrev pub beside : List (List ℕ) → List (List ℕ) → List (List ℕ)
beside [] ws = []
beside (v ∷ vs) [] = []
beside (v ∷ vs) (w ∷ ws) = (v ++ w) ∷ beside vs ws

pub length_beside : (v w : List (List ℕ)) → length v ≡ length w → length (beside v w) ≡ length v
length_beside [] w e = refl
length_beside (a ∷ v) [] e = absurd (omega arith)
length_beside (a ∷ v) (b ∷ w) e = ap suc (length_beside v w (omega arith))

pub beside_parts : (n : ℕ) (band : List (List ℕ)) → beside (first_subtries n band) (later_subtries n band) ≡ band
unfolding first_subtries later_subtries
beside_parts n [] = refl
beside_parts n (ns ∷ band) = λ i. take-append-drop n ns i ∷ beside_parts (on_bits (take n ns)) band i

pub beside_shape : (r q : ℕ) (v w : List (List ℕ)) → length v ≡ length w → Shape r v → Shape q w → Shape (r + q) (beside v w)
beside_shape r q [] w e s t = tt
beside_shape r q (a ∷ v) [] e s t = absurd (omega arith)
beside_shape r q (a ∷ v) (b ∷ w) e s t =
    (length-append a b ∙ omega (arith, s.0, t.0), nodes_append a b s.1 t.1, rw (on_bits-append a b) (beside_shape (on_bits a) (on_bits b) v w (omega arith) s.2 t.2))

-- the cut falls between the two
pub first_whole : (r : ℕ) (v w : List (List ℕ)) → length v ≡ length w → Shape r v → first_subtries r (beside v w) ≡ v
unfolding first_subtries
first_whole r [] w e s = refl
first_whole r (a ∷ v) [] e s = absurd (omega arith)
first_whole r (a ∷ v) (b ∷ w) e s = rw (take_at a b r s.0) (ap (a ∷◌) (first_whole (on_bits a) v w (omega arith) s.2))

pub later-whole : (r : ℕ) (v w : List (List ℕ)) → length v ≡ length w → Shape r v → later_subtries r (beside v w) ≡ w
unfolding later_subtries
later-whole r [] [] e s = refl
later-whole r [] (b ∷ w) e s = absurd (omega arith)
later-whole r (a ∷ v) [] e s = absurd (omega arith)
later-whole r (a ∷ v) (b ∷ w) e s = rw (take_at a b r s.0, drop_at a b r s.0) (ap (b ∷◌) (later-whole (on_bits a) v w (omega arith) s.2))

-- or within the first
pub first_beside : (k r : ℕ) (v w : List (List ℕ)) → k ≤ r → length v ≡ length w → Shape r v → first_subtries k (beside v w) ≡ first_subtries k v
unfolding first_subtries
first_beside k r [] w h e s = refl
first_beside k r (a ∷ v) [] h e s = absurd (omega arith)
first_beside k r (a ∷ v) (b ∷ w) h e s =
    rw (take-append-le k a b (omega (arith, s.0))) (ap (take k a ∷◌) (first_beside (on_bits (take k a)) (on_bits a) v w (omega (arith, on_bits-split k a)) (omega arith) s.2))

pub later_beside : (k r : ℕ) (v w : List (List ℕ)) → k ≤ r → length v ≡ length w → Shape r v → later_subtries k (beside v w) ≡ beside (later_subtries k v) w
unfolding later_subtries
later_beside k r [] w h e s = refl
later_beside k r (a ∷ v) [] h e s = absurd (omega arith)
later_beside k r (a ∷ v) (b ∷ w) h e s =
    rw (take-append-le k a b (omega (arith, s.0)), drop-append-le k a b (omega (arith, s.0)))
    (ap ((drop k a ++ b) ∷◌) (later_beside (on_bits (take k a)) (on_bits a) v w (omega (arith, on_bits-split k a)) (omega arith) s.2))

-- no roots, no nodes
pub no_nodes : (ns : List ℕ) → length ns ≡ 0 → ns ≡ []
no_nodes [] e = refl
no_nodes (n ∷ ns) e = absurd (omega arith)

pub beside_none : (v w : List (List ℕ)) → length v ≡ length w → Shape 0 v → beside v w ≡ w
unfolding on_bits
beside_none [] [] e s = refl
beside_none [] (b ∷ w) e s = absurd (omega arith)
beside_none (a ∷ v) [] e s = absurd (omega arith)
beside_none ([] ∷ v) (b ∷ w) e s = ap (b ∷◌) (beside_none v w (omega arith) s.2)
beside_none ((x ∷ a) ∷ v) (b ∷ w) e s = absurd (omega (arith, s.0))

-- ---- nodes

pub node_count_beside : (r q : ℕ) (v w : List (List ℕ)) → length v ≡ length w → node_count (r + q) (beside v w) ≡ node_count r v + node_count q w
unfolding node_count
node_count_beside r q [] [] e = refl
node_count_beside r q [] (b ∷ w) e = absurd (omega arith)
node_count_beside r q (a ∷ v) [] e = absurd (omega arith)
node_count_beside r q (a ∷ v) (b ∷ w) e = rw (on_bits-append a b, node_count_beside (on_bits a) (on_bits b) v w (omega arith)) (omega arith)

pub node_count-none : (v : List (List ℕ)) → Shape 0 v → node_count 0 v ≡ 0
unfolding node_count on_bits
node_count-none [] s = refl
node_count-none ([] ∷ v) s = omega (arith, node_count-none v s.2)
node_count-none ((x ∷ a) ∷ v) s = absurd (omega (arith, s.0))

pub node_count_parts : (k r : ℕ) (v : List (List ℕ)) → k ≤ r → node_count k (first_subtries k v) + node_count (r - k) (later_subtries k v) ≡ node_count r v
node_count_parts k r v h =
    sym (node_count_beside k (r - k) (first_subtries k v) (later_subtries k v) (length_first k v ∙ sym (length-later k v)))
    ∙ ap₂ node_count (omega arith) (beside_parts k v)

-- Four levels of r roots: each root has 4 to 15 nodes and at most 16 out-links, and there are at most four nodes for each out-link.
pub record NodeBounds (r nodes links : ℕ) : Type 0 where
  pub least : 4 * r ≤ nodes
  pub most : nodes ≤ 15 * r
  pub by_links : nodes ≤ 4 * links
  pub links_most : links ≤ 16 * r

pub node_bounds : (r : ℕ) (v : List (List ℕ)) → length v ≡ 4 → Shape r v → NodeBounds r (node_count r v) (on_bits (get_or v 3 []))
unfolding node_count
node_bounds r [] e s = absurd (omega arith)
node_bounds r (a ∷ []) e s = absurd (omega arith)
node_bounds r (a ∷ b ∷ []) e s = absurd (omega arith)
node_bounds r (a ∷ b ∷ c ∷ []) e s = absurd (omega arith)
node_bounds r (a ∷ b ∷ c ∷ d ∷ []) e s =
    let ha = on_bits_bounds a s.1 in
    let hb = on_bits_bounds b s.2.1 in
    let hc = on_bits_bounds c s.2.2.1 in
    let hd = on_bits_bounds d s.2.2.2.1 in
    record {
      least = omega (arith, s.0, s.2.0, s.2.2.0, ha, hb, hc);
      most = omega (arith, s.0, s.2.0, s.2.2.0, ha, hb, hc);
      by_links = omega (arith, s.0, s.2.0, s.2.2.0, s.2.2.2.0, ha, hb, hc, hd);
      links_most = omega (arith, s.0, s.2.0, s.2.2.0, s.2.2.2.0, ha, hb, hc, hd);
    }
node_bounds r (a ∷ b ∷ c ∷ d ∷ x ∷ v) e s = absurd (omega arith)

-- ---- the sizes of subtries

pub length_sizes : (n : ℕ) (v : List (List ℕ)) → length (subtrie_sizes n v) ≡ n
unfolding subtrie_sizes
length_sizes zero v = refl
length_sizes (suc n) v = ap suc (length_sizes n (later_subtries 1 v))

later_one : (n : ℕ) (v : List (List ℕ)) → Shape (suc n) v → Shape n (later_subtries 1 v)
later_one n v s = let e : suc n - 1 ≡ n = omega arith in rw e at (later_shape 1 (suc n) v (omega arith) s)

pub sizes_beside : (r q : ℕ) (v w : List (List ℕ)) → length v ≡ length w → Shape r v → subtrie_sizes (r + q) (beside v w) ≡ subtrie_sizes r v ++ subtrie_sizes q w
unfolding subtrie_sizes
sizes_beside zero q v w e s = let n : 0 + q ≡ q = omega arith in ap₂ subtrie_sizes n (beside_none v w e s)
sizes_beside (suc r) q v w e s =
    let n : suc r + q ≡ suc (r + q) = omega arith in
    ap (λ (n : ℕ). subtrie_sizes n (beside v w)) n
    ∙ ap₂ (λ (f l : List (List ℕ)). node_count 1 f ∷ subtrie_sizes (r + q) l) (first_beside 1 (suc r) v w (omega arith) e s) (later_beside 1 (suc r) v w (omega arith) e s)
    ∙ ap (node_count 1 (first_subtries 1 v) ∷◌) (sizes_beside r q (later_subtries 1 v) w (length-later 1 v ∙ e) (later_one r v s))

pub total_sizes : (r : ℕ) (v : List (List ℕ)) → Shape r v → total (subtrie_sizes r v) ≡ node_count r v
unfolding subtrie_sizes total
total_sizes zero v s = sym (node_count-none v s)
total_sizes (suc r) v s =
    let e : suc r - 1 ≡ r = omega arith in
    rw (total_sizes r (later_subtries 1 v) (later_one r v s)) (rw e at (node_count_parts 1 (suc r) v (omega arith)))

-- each of them fits a page
pub sizes_small : (r : ℕ) (v : List (List ℕ)) → length v ≡ 4 → Shape r v → All (λ n. n ≤ 240) (subtrie_sizes r v)
unfolding subtrie_sizes
sizes_small zero v e s = tt
sizes_small (suc r) v e s = (
  omega (arith, node_bounds 1 (first_subtries 1 v) (length_first 1 v ∙ e) (first_shape 1 (suc r) v (omega arith) s)),
  sizes_small r (later_subtries 1 v) (length-later 1 v ∙ e) (later_one r v s),
)
