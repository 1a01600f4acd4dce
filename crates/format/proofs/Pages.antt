-- A band's levels parted into pages, and the pages joined into the band again: greedy packing gives the only pages.
-- Assumes nothing.
use mathlib.Core.Path.{◌≡◌, refl, sym, ap, ap₂, ◌∙◌}
use mathlib.Core.List.{List, [], ◌∷◌, ◌++◌, map, flat_map, flatten}
use Prim.Native.Nat.{ℕ, zero, suc, ◌+◌, ◌-◌, ◌≤◌, ◌<◌}
use native.Mathlib.Omega.{arith}
use lib.ListN.{length, get_or, length-append}
use Rattle.format.specs.Seq.{total}
use Rattle.format.specs.Trie.{on_bits}
use Rattle.format.specs.Page.{first_subtries, later_subtries, node_count}
use Rattle.format.specs.Writer.{cut, pages_of, roots_in, subtrie_sizes, subtries_per_page}
use Rattle.format.proofs.Lists.{append_same}
use Rattle.format.proofs.Trie.{Shape}
use Rattle.format.proofs.Shapes.{last_on}
use Rattle.format.proofs.Subtries.{on_bits-append, first_shape, later_shape, length_first, length-later, beside, length_beside, beside_parts, beside_shape, first_whole, later-whole, no_nodes, length_sizes, sizes_beside, total_sizes, sizes_small}
use Rattle.format.proofs.Packing.{first, Closed, Packed, packed_only, packed_grouped}

-- ---- the pages of a band

pub record Page (page : List (List ℕ)) : Type 0 where
  pub four : length page ≡ 4
  pub shape : Shape (roots_in page) page
  pub some_roots : 1 ≤ roots_in page
  pub fits : node_count (roots_in page) page ≤ 240

-- after a page of t nodes
abbrev pub Follows : ℕ → List (List (List ℕ)) → Type 0
Follows t [] = Unit {0}
Follows t (p ∷ ps) = 240 < node_count 1 (first_subtries 1 p) + t

abbrev pub Paged : List (List (List ℕ)) → Type 0
Paged [] = Unit {0}
Paged (p ∷ ps) = Page p × Follows (node_count (roots_in p) p) ps × Paged ps

abbrev pub glue : List (List (List ℕ)) → List (List ℕ)
glue [] = [] ∷ [] ∷ [] ∷ [] ∷ []
glue (p ∷ ps) = beside p (glue ps)

unfoldable pub sizes_of : List (List ℕ) → List ℕ
sizes_of page = subtrie_sizes (roots_in page) page

pub shape_roots : (r : ℕ) (v : List (List ℕ)) → length v ≡ 4 → Shape r v → roots_in v ≡ r
unfolding roots_in
shape_roots r [] e s = absurd (omega arith)
shape_roots r (a ∷ v) e s = s.0

pub roots_beside : (v w : List (List ℕ)) → length v ≡ 4 → length w ≡ 4 → roots_in (beside v w) ≡ roots_in v + roots_in w
unfolding roots_in
roots_beside [] w e f = absurd (omega arith)
roots_beside (a ∷ v) [] e f = absurd (omega arith)
roots_beside (a ∷ v) (b ∷ w) e f = length-append a b

pub glue_four : (ps : List (List (List ℕ))) → Paged ps → length (glue ps) ≡ 4
glue_four [] h = refl
glue_four (p ∷ ps) h = length_beside p (glue ps) (h.0.four ∙ sym (glue_four ps h.2)) ∙ h.0.four

module _ (p : List (List ℕ)) (ps : List (List (List ℕ))) (h : Paged (p ∷ ps)) where
  pub glue_same : length p ≡ length (glue ps)
  glue_same = h.0.four ∙ sym (glue_four ps h.2)

  pub glue_roots : roots_in (glue (p ∷ ps)) ≡ roots_in p + roots_in (glue ps)
  glue_roots = roots_beside p (glue ps) h.0.four (glue_four ps h.2)

pub glue_shape : (ps : List (List (List ℕ))) → Paged ps → Shape (roots_in (glue ps)) (glue ps)
unfolding roots_in on_bits
glue_shape [] h = (refl, tt, (refl, tt, (refl, tt, (refl, tt, tt))))
glue_shape (p ∷ ps) h = rw (glue_roots p ps h) (beside_shape (roots_in p) (roots_in (glue ps)) p (glue ps) (glue_same p ps h) h.0.shape (glue_shape ps h.2))

pub glue_sizes : (ps : List (List (List ℕ))) → Paged ps → sizes_of (glue ps) ≡ flatten (map sizes_of ps)
unfolding flatten sizes_of roots_in subtrie_sizes
glue_sizes [] h = refl
glue_sizes (p ∷ ps) h =
    ap (λ (n : ℕ). subtrie_sizes n (beside p (glue ps))) (glue_roots p ps h)
    ∙ sizes_beside (roots_in p) (roots_in (glue ps)) p (glue ps) (glue_same p ps h) h.0.shape
    ∙ ap (sizes_of p ++◌) (glue_sizes ps h.2)

first_size : (r : ℕ) (v : List (List ℕ)) → 1 ≤ r → first (subtrie_sizes r v) ≡ node_count 1 (first_subtries 1 v)
unfolding subtrie_sizes
first_size zero v h = absurd (omega arith)
first_size (suc r) v h = refl

first_of : (p : List (List ℕ)) → Page p → first (sizes_of p) ≡ node_count 1 (first_subtries 1 p)
unfolding sizes_of
first_of p h = first_size (roots_in p) p h.some_roots

total_of : (p : List (List ℕ)) → Page p → total (sizes_of p) ≡ node_count (roots_in p) p
unfolding sizes_of
total_of p h = total_sizes (roots_in p) p h.shape

length_of : (p : List (List ℕ)) → length (sizes_of p) ≡ roots_in p
unfolding sizes_of
length_of p = length_sizes (roots_in p) p

follows_closed : (t : ℕ) (ps : List (List (List ℕ))) → Paged ps → Follows t ps → Closed t (map sizes_of ps)
follows_closed t [] p h = tt
follows_closed t (w ∷ ws) p h = omega (arith, first_of w p.0, h)

closed_follows : (t : ℕ) (ps : List (List (List ℕ))) → Paged ps → Closed t (map sizes_of ps) → Follows t ps
closed_follows t [] p h = tt
closed_follows t (w ∷ ws) p h = omega (arith, first_of w p.0, h)

pub paged_packed : (ps : List (List (List ℕ))) → Paged ps → Packed (map sizes_of ps)
paged_packed [] h = tt
paged_packed (p ∷ ps) h =
    (omega (arith, length_of p, h.0.some_roots), omega (arith, total_of p h.0, h.0.fits), rw (total_of p h.0) (follows_closed _ ps h.2 h.1), paged_packed ps h.2)

pub cut_glue : (ps : List (List (List ℕ))) → Paged ps → cut (map roots_in ps) (glue ps) ≡ ps
unfolding cut
cut_glue [] h = refl
cut_glue (p ∷ ps) h =
    ap₂ (λ (a : List (List ℕ)) (b : List (List ℕ)). a ∷ cut (map roots_in ps) b) (first_whole (roots_in p) p (glue ps) (glue_same p ps h) h.0.shape) (later-whole (roots_in p) p (glue ps) (glue_same p ps h) h.0.shape)
    ∙ ap (p ∷◌) (cut_glue ps h.2)

lengths_of : (ps : List (List (List ℕ))) → map length (map sizes_of ps) ≡ map roots_in ps
lengths_of [] = refl
lengths_of (p ∷ ps) = λ i. length_of p i ∷ lengths_of ps i

-- Pages that are as 9 to 12 ask are the pages that the writer makes of their levels.
pub pages_only : (ps : List (List (List ℕ))) → Paged ps → pages_of (glue ps) ≡ ps
unfolding pages_of sizes_of
pages_only ps h =
    ap (λ (s : List ℕ). cut (subtries_per_page s) (glue ps)) (glue_sizes ps h)
    ∙ ap (λ (c : List ℕ). cut c (glue ps)) (packed_only (map sizes_of ps) (paged_packed ps h) ∙ lengths_of ps)
    ∙ cut_glue ps h

-- ---- and the writer's pages are so

record Cut (ss : List (List ℕ)) (band : List (List ℕ)) (ps : List (List (List ℕ))) : Type 0 where
  paged : Paged ps
  glued : glue ps ≡ band
  sizes_are : map sizes_of ps ≡ ss

none_left : (band : List (List ℕ)) → length band ≡ 4 → Shape 0 band → glue [] ≡ band
unfolding on_bits
none_left [] e s = absurd (omega arith)
none_left (a ∷ []) e s = absurd (omega arith)
none_left (a ∷ b ∷ []) e s = absurd (omega arith)
none_left (a ∷ b ∷ c ∷ []) e s = absurd (omega arith)
none_left (a ∷ b ∷ c ∷ d ∷ []) e s = λ i. sym e₁ i ∷ sym e₂ i ∷ sym e₃ i ∷ sym e₄ i ∷ []
  where
    e₁ : a ≡ []
    e₁ = no_nodes a s.0

    e₂ : b ≡ []
    e₂ = no_nodes b (s.2.0 ∙ ap on_bits e₁)

    e₃ : c ≡ []
    e₃ = no_nodes c (s.2.2.0 ∙ ap on_bits e₂)

    e₄ : d ≡ []
    e₄ = no_nodes d (s.2.2.2.0 ∙ ap on_bits e₃)
none_left (a ∷ b ∷ c ∷ d ∷ x ∷ v) e s = absurd (omega arith)

sizes_at : (page : List (List ℕ)) (n : ℕ) → roots_in page ≡ n → sizes_of page ≡ subtrie_sizes n page
unfolding sizes_of
sizes_at page n e = ap (λ (k : ℕ). subtrie_sizes k page) e

cut_one : (g : List ℕ) (ss : List (List ℕ)) (band page left : List (List ℕ)) → Packed (g ∷ ss) → beside page left ≡ band → Shape (length g) page → length page ≡ 4
    → subtrie_sizes (length g) page ≡ g → Cut ss left (cut (map length ss) left) → Cut (g ∷ ss) band (page ∷ cut (map length ss) left)
cut_one g ss band page left k e s f eg c =
    let rt : roots_in page ≡ length g = shape_roots (length g) page f s in
    let tot : total g ≡ node_count (length g) page = ap total (sym eg) ∙ total_sizes (length g) page s in
    let pg : Page page = record { four = f; shape = rw rt s; some_roots = rw rt k.0; fits = rw (rt, ← tot) k.1 } in
    let closed : Closed (node_count (roots_in page) page) (map sizes_of (cut (map length ss) left)) = rw (c.sizes_are, rt, ← tot) k.2 in
    record {
      paged = (pg, closed_follows _ (cut (map length ss) left) c.paged closed, c.paged);
      glued = ap (beside page) c.glued ∙ e;
      sizes_are = λ i. (sizes_at page (length g) rt ∙ eg) i ∷ c.sizes_are i;
    }

cut_groups : (ss : List (List ℕ)) (r : ℕ) (band : List (List ℕ)) → length band ≡ 4 → Shape r band → subtrie_sizes r band ≡ flatten ss → Packed ss
    → Cut ss band (cut (map length ss) band)
unfolding cut flatten
cut_groups [] r band e s all k =
    let z : r ≡ 0 = sym (length_sizes r band) ∙ ap length all in
    record { paged = tt; glued = none_left band e (rw z at s); sizes_are = refl }
cut_groups (g ∷ ss) r band e s all k =
    let page = first_subtries (length g) band in
    let left = later_subtries (length g) band in
    let le : length g ≤ r = omega (arith, length_sizes r band, ap length all, length-append g (flatten ss)) in
    let s₁ : Shape (length g) page = first_shape (length g) r band le s in
    let s₂ : Shape (r - length g) left = later_shape (length g) r band le s in
    let n : length g + (r - length g) ≡ r = omega arith in
    let parts : subtrie_sizes (length g) page ++ subtrie_sizes (r - length g) left ≡ g ++ flatten ss =
    sym (sizes_beside (length g) (r - length g) page left (length_first (length g) band ∙ sym (length-later (length g) band)) s₁) ∙ ap₂ subtrie_sizes n (beside_parts (length g) band) ∙ all in
    let both = append_same _ _ g (flatten ss) (length_sizes (length g) page) parts in
    cut_one g ss band page left k (beside_parts (length g) band) s₁ (length_first (length g) band ∙ e) both.0
    (cut_groups ss (r - length g) left (length-later (length g) band ∙ e) s₂ both.1 k.3)

pub record Pages (band : List (List ℕ)) : Type 0 where
  pub paged : Paged (pages_of band)
  pub glued : glue (pages_of band) ≡ band

pub pages_of_lem : (r : ℕ) (band : List (List ℕ)) → length band ≡ 4 → Shape r band → Pages band
unfolding pages_of
pages_of_lem r band e s =
    let rt : roots_in band ≡ r = shape_roots r band e s in
    let s' : Shape (roots_in band) band = rw rt s in
    let g = packed_grouped (subtrie_sizes (roots_in band) band) (sizes_small (roots_in band) band e s') in
    let c = cut_groups g.groups (roots_in band) band e s' (sym g.all) g.packed_groups in
    record { paged = rw g.are c.paged; glued = rw g.are c.glued }

-- ---- a band's levels and its pages'

pub get_d_beside : (l : ℕ) (v w : List (List ℕ)) → length v ≡ length w → get_or (beside v w) l [] ≡ get_or v l [] ++ get_or w l []
get_d_beside l [] [] e = refl
get_d_beside l [] (b ∷ w) e = absurd (omega arith)
get_d_beside l (a ∷ v) [] e = absurd (omega arith)
get_d_beside zero (a ∷ v) (b ∷ w) e = refl
get_d_beside (suc l) (a ∷ v) (b ∷ w) e = get_d_beside l v w (omega arith)

get_or-none : (l : ℕ) → get_or (glue []) l [] ≡ []
get_or-none zero = refl
get_or-none (suc zero) = refl
get_or-none (suc (suc zero)) = refl
get_or-none (suc (suc (suc zero))) = refl
get_or-none (suc (suc (suc (suc l)))) = refl

pub glue_level : (l : ℕ) (ps : List (List (List ℕ))) → Paged ps → get_or (glue ps) l [] ≡ flat_map (λ p. get_or p l []) ps
unfolding flat_map
glue_level l [] h = get_or-none l
glue_level l (p ∷ ps) h = get_d_beside l p (glue ps) (glue_same p ps h) ∙ ap (get_or p l [] ++◌) (glue_level l ps h.2)

pub four_levels_lem : (v : List (List ℕ)) → length v ≡ 4 → get_or v 0 [] ∷ get_or v 1 [] ∷ get_or v 2 [] ∷ get_or v 3 [] ∷ [] ≡ v
four_levels_lem [] e = absurd (omega arith)
four_levels_lem (a ∷ []) e = absurd (omega arith)
four_levels_lem (a ∷ b ∷ []) e = absurd (omega arith)
four_levels_lem (a ∷ b ∷ c ∷ []) e = absurd (omega arith)
four_levels_lem (a ∷ b ∷ c ∷ d ∷ []) e = refl
four_levels_lem (a ∷ b ∷ c ∷ d ∷ x ∷ v) e = absurd (omega arith)

-- the out-links of the pages are those of the band
pub glue_links : (ps : List (List (List ℕ))) → Paged ps → on_bits (get_or (glue ps) 3 []) ≡ total (map (λ p. on_bits (get_or p 3 [])) ps)
unfolding total on_bits
glue_links [] h = refl
glue_links (p ∷ ps) h = ap on_bits (get_d_beside 3 p (glue ps) (glue_same p ps h)) ∙ on_bits-append (get_or p 3 []) (get_or (glue ps) 3 []) ∙ ap (on_bits (get_or p 3 []) +◌) (glue_links ps h.2)

pub last_on_four : (r : ℕ) (v : List (List ℕ)) → length v ≡ 4 → last_on r v ≡ on_bits (get_or v 3 [])
last_on_four r [] e = absurd (omega arith)
last_on_four r (a ∷ []) e = absurd (omega arith)
last_on_four r (a ∷ b ∷ []) e = absurd (omega arith)
last_on_four r (a ∷ b ∷ c ∷ []) e = absurd (omega arith)
last_on_four r (a ∷ b ∷ c ∷ d ∷ []) e = refl
last_on_four r (a ∷ b ∷ c ∷ d ∷ x ∷ v) e = absurd (omega arith)
