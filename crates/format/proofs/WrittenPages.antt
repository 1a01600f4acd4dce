-- The bytes of a band's pages, as the writer gives them, read again: the page's counters and levels are found, and 8 to 12 get a yes.
-- Assumes nothing.
use mathlib.Core.Path.{◌≡◌, refl, sym, ap, ap₂, ◌∙◌, subst}
use mathlib.Core.Bool.{true}
use mathlib.Core.List.{List, [], ◌∷◌, ◌++◌, map, flat_map, flatten, append_assoc}
use Prim.Native.Nat.{ℕ, zero, suc, ◌+◌, ◌-◌, ◌*◌, ◌≤◌, ◌<◌}
use native.Mathlib.Numerals.{add-one}
use native.Mathlib.Omega.{arith}
use native.Mathlib.Decide.{ℕ_discrete}
use lib.Dec.{ltb}
use borrow.Author.Tests.{lt-ltb, le-ltb}
use lib.ListN.{length, get_or, take, drop, replicate, length-append}
use lib.Seq.{drop-drop, take_at, drop_at}
use Rattle.format.specs.Seq.{every, numbers_from}
use Rattle.format.specs.Trie.{on_bits}
use Rattle.format.specs.Page.{levels_in, node_bytes, node_count, number_at, pairs_of, two_bytes}
use Rattle.format.specs.Image.{next_t, out_link_count, page_b, page_count, page_levels, page_nodes, page_number, page_pairs, page_roots, page_t, root_count}
use Rattle.format.specs.Question.{is_positive, is_zero}
use Rattle.format.specs.Writer.{band_bytes, page_bytes, roots_in}
use Rattle.format.proofs.Lists.{every_all}
use Rattle.format.proofs.Subtries.{node_bounds}
use Rattle.format.proofs.Pages.{Page, Paged, Follows, glue, glue_roots}
use Rattle.format.proofs.Bytes.{number_of, length-node_bytes, pairs_back, levels_found, length-flatten, nodes_flatten, shape_positive, zero_all, zeros_all, length-page_bytes}
use Rattle.format.proofs.Checked.{HeadRight, PageNeeded, PageOk, cond_yes, cond_no}

-- ---- one page

pub record PageIs (img : List ℕ) (b i t o : ℕ) (p : List (List ℕ)) : Type 0 where
  pub t_is : page_t img b i ≡ t
  pub b_is : page_b img b i ≡ o
  pub roots_is : page_roots img b i ≡ roots_in p
  pub levels_are : page_levels img b i ≡ p
  pub nodes_are : page_nodes img b i ≡ node_count (roots_in p) p
  pub rest : every is_zero (drop (page_nodes img b i) (page_pairs img b i)) ≡ true

-- what stands at a place
at_page : (img : List ℕ) (at t o : ℕ) (p : List (List ℕ)) (rest : List ℕ) → drop at img ≡ page_bytes t o p ++ rest → (number_at img at ≡ t) × (number_at img (at + 2) ≡ o) × (drop (at + 4) img ≡ node_bytes 60 (flatten p) ++ rest)
unfolding page_bytes
at_page img at t o p rest e =
    let e₀ : drop at img ≡ two_bytes t ++ (two_bytes o ++ (node_bytes 60 (flatten p) ++ rest)) = e ∙ simp append_assoc in
    let e₂ : drop (at + 2) img ≡ two_bytes o ++ (node_bytes 60 (flatten p) ++ rest) = sym (drop-drop 2 at img) ∙ ap (drop 2) e₀ ∙ (unfold two_bytes in refl) in
    let n : at + 2 + 2 ≡ at + 4 = omega arith in
    let e₄ : drop (at + 4) img ≡ node_bytes 60 (flatten p) ++ rest = ap (λ (k : ℕ). drop k img) (sym n) ∙ sym (drop-drop 2 (at + 2) img) ∙ ap (drop 2) e₂ ∙ (unfold two_bytes in refl) in
    (number_of img at t _ e₀, number_of img (at + 2) o _ e₂, e₄)

pairs_are : (img : List ℕ) (b i : ℕ) (p : List (List ℕ)) (rest : List ℕ) → Page p → drop (64 * page_number img b i + 4) img ≡ node_bytes 60 (flatten p) ++ rest
    → page_pairs img b i ≡ flatten p ++ replicate (240 - length (flatten p)) 0
unfolding page_pairs
pairs_are img b i p rest h e =
    ap (λ (l : List ℕ). flat_map pairs_of (take 60 l)) e
    ∙ ap (flat_map pairs_of) (take_at (node_bytes 60 (flatten p)) rest 60 (length-node_bytes 60 (flatten p)))
    ∙ pairs_back 60 (flatten p) (nodes_flatten (roots_in p) p h.shape) (omega (arith, length-flatten (roots_in p) p h.shape, h.fits))

levels_of_lem : (img : List ℕ) (b i : ℕ) (p : List (List ℕ)) → Page p → page_roots img b i ≡ roots_in p → page_pairs img b i ≡ flatten p ++ replicate (240 - length (flatten p)) 0 → page_levels img b i ≡ p
unfolding page_levels
levels_of_lem img b i p h r e =
    ap₂ (levels_in 4) r e
    ∙ ap (λ (n : ℕ). levels_in n (roots_in p) (flatten p ++ replicate (240 - length (flatten p)) 0)) (sym h.four)
    ∙ levels_found (roots_in p) p (replicate (240 - length (flatten p)) 0) h.shape

page_is : (img : List ℕ) (b i t o : ℕ) (p : List (List ℕ)) (rest : List ℕ) → Page p → drop (64 * page_number img b i) img ≡ page_bytes t o p ++ rest → next_t img b i ≡ t + roots_in p → PageIs img b i t o p
unfolding page_t page_b page_nodes page_roots
page_is img b i t o p rest h e next =
    let q = at_page img (64 * page_number img b i) t o p rest e in
    let r : page_roots img b i ≡ roots_in p = omega (arith, q.0) in
    let ps = pairs_are img b i p rest h q.2 in
    let l = levels_of_lem img b i p h r ps in
    let n : page_nodes img b i ≡ node_count (roots_in p) p = ap₂ node_count r l in
    let m : length (flatten p) ≡ page_nodes img b i = length-flatten (roots_in p) p h.shape ∙ sym n in
    let z : drop (page_nodes img b i) (page_pairs img b i) ≡ replicate (240 - length (flatten p)) 0 = ap (drop (page_nodes img b i)) ps ∙ drop_at (flatten p) (replicate (240 - length (flatten p)) 0) (page_nodes img b i) m in
    record {
      t_is = q.0;
      b_is = q.1;
      roots_is = r;
      levels_are = l;
      nodes_are = n;
      rest = ap (every is_zero) z ∙ zero_all (replicate (240 - length (flatten p)) 0) (zeros_all (240 - length (flatten p)));
    }

-- ---- a band's pages

abbrev pub AllRead : List ℕ → ℕ → ℕ → ℕ → ℕ → List (List (List ℕ)) → Type 0
AllRead img b i t o [] = Unit {0}
AllRead img b i t o (p ∷ ps) = PageIs img b i t o p × AllRead img b (suc i) (t + roots_in p) (o + on_bits (get_or p 3 [])) ps

pub length-band_bytes : (t o : ℕ) (ps : List (List (List ℕ))) → length (band_bytes t o ps) ≡ 64 * length ps
unfolding band_bytes
length-band_bytes t o [] = refl
length-band_bytes t o (p ∷ ps) =
    length-append (page_bytes t o p) (band_bytes (t + roots_in p) (o + on_bits (get_or p 3 [])) ps)
    ∙ omega (arith, length-page_bytes t o p, length-band_bytes (t + roots_in p) (o + on_bits (get_or p 3 [])) ps)

pub roots_none : roots_in (glue []) ≡ 0
unfolding roots_in
roots_none = refl

next_of : (img : List ℕ) (b i t o : ℕ) (ps : List (List (List ℕ))) (rest : List ℕ) → Paged ps → suc i + length ps ≡ page_count img b → drop (64 * page_number img b (suc i)) img ≡ band_bytes t o ps ++ rest
    → t + roots_in (glue ps) ≡ root_count img b → next_t img b i ≡ t
unfolding next_t band_bytes page_t
next_of img b i t o [] rest h n e r =
    cond_no (ltb (i + 1) (page_count img b)) _ _ (le-ltb (i + 1) (page_count img b) (omega arith)) ∙ omega (arith, roots_none)
next_of img b i t o (p ∷ ps) rest h n e r =
    cond_yes (ltb (i + 1) (page_count img b)) _ _ (lt-ltb (i + 1) (page_count img b) (omega arith))
    ∙ ap (page_t img b) (add-one i)
    ∙ (at_page img (64 * page_number img b (suc i)) t o p (band_bytes (t + roots_in p) (o + on_bits (get_or p 3 [])) ps ++ rest) (e ∙ simp append_assoc)).0

pub read_pages : (img : List ℕ) (b i t o : ℕ) (ps : List (List (List ℕ))) (rest : List ℕ) → Paged ps → i + length ps ≡ page_count img b → drop (64 * page_number img b i) img ≡ band_bytes t o ps ++ rest
    → t + roots_in (glue ps) ≡ root_count img b → AllRead img b i t o ps
unfolding band_bytes
read_pages img b i t o [] rest h n e r = tt
read_pages img b i t o (p ∷ ps) rest h n e r =
    let more = band_bytes (t + roots_in p) (o + on_bits (get_or p 3 [])) ps ++ rest in
    let here : drop (64 * page_number img b i) img ≡ page_bytes t o p ++ more = e ∙ simp append_assoc in
    let step : 64 * page_number img b i + 64 ≡ 64 * page_number img b (suc i) = unfold page_number in omega arith in
    let there : drop (64 * page_number img b (suc i)) img ≡ more =
    ap (λ (k : ℕ). drop k img) (sym step) ∙ sym (drop-drop 64 (64 * page_number img b i) img) ∙ ap (drop 64) here ∙ drop_at (page_bytes t o p) more 64 (length-page_bytes t o p) in
    let left : t + roots_in p + roots_in (glue ps) ≡ root_count img b = omega (arith, glue_roots p ps h) in
    let next : next_t img b i ≡ t + roots_in p = next_of img b i (t + roots_in p) (o + on_bits (get_or p 3 [])) ps rest h.2 (omega arith) there left in
    (page_is img b i t o p more h.0 here next, read_pages img b (suc i) (t + roots_in p) (o + on_bits (get_or p 3 [])) ps rest h.2 (omega arith) there left)

pub levels_read : (img : List ℕ) (b i t o : ℕ) (ps : List (List (List ℕ))) → AllRead img b i t o ps → map (page_levels img b) (numbers_from i (length ps)) ≡ ps
unfolding numbers_from
levels_read img b i t o [] h = refl
levels_read img b i t o (p ∷ ps) h = λ j. h.0.levels_are j ∷ levels_read img b (suc i) _ _ ps h.1 j

-- what stood before page i
abbrev Entered : List ℕ → ℕ → ℕ → ℕ → ℕ → List (List (List ℕ)) → Type 0
Entered img b zero t o ps = (t ≡ 0) × (o ≡ 0)
Entered img b (suc i) t o ps = (page_b img b i + out_link_count img b i ≡ o) × Follows (page_nodes img b i) ps

counters_at : (img : List ℕ) (b i t o : ℕ) (p : List (List ℕ)) (ps : List (List (List ℕ))) → PageIs img b i t o p → Entered img b i t o (p ∷ ps) → HeadRight img b i
counters_at img b zero t o p ps h e = (h.t_is ∙ e.0, h.b_is ∙ e.1)
counters_at img b (suc i) t o p ps h e = h.b_is ∙ sym e.0

full_at : (img : List ℕ) (b i t o : ℕ) (p : List (List ℕ)) (ps : List (List (List ℕ))) → PageIs img b i t o p → Entered img b i t o (p ∷ ps) → PageNeeded img b i
full_at img b zero t o p ps h e = tt
full_at img b (suc i) t o p ps h e = rw h.levels_are e.1

ok_at : (img : List ℕ) (b i t o : ℕ) (p : List (List ℕ)) (ps : List (List (List ℕ))) → Page p → PageIs img b i t o p → Entered img b i t o (p ∷ ps) → PageOk img b i
ok_at img b i t o p ps g h e =
    record {
      counters = counters_at img b i t o p ps h e;
      some_roots = rw h.roots_is g.some_roots;
      few_roots = omega (arith, h.roots_is, node_bounds (roots_in p) p g.four g.shape, g.fits);
      within = rw h.nodes_are g.fits;
      positive = rw h.levels_are (every_all (every is_positive) p (shape_positive (roots_in p) p g.shape));
      zeros = h.rest;
      full = full_at img b i t o p ps h e;
    }

pub all_ok : (img : List ℕ) (b i t o : ℕ) (ps : List (List (List ℕ))) → Paged ps → AllRead img b i t o ps → Entered img b i t o ps → (j : ℕ) → i ≤ j → j < i + length ps → PageOk img b j
unfolding out_link_count
all_ok img b i t o [] g h e j lo hi = absurd (omega arith)
all_ok img b i t o (p ∷ ps) g h e j lo hi =
    let links : out_link_count img b i ≡ on_bits (get_or p 3 []) = ap (λ (v : List (List ℕ)). on_bits (get_or v 3 [])) h.0.levels_are in
    let next : Follows (page_nodes img b i) ps = rw h.0.nodes_are g.1 in
    elim (ℕ_discrete i j) [
      | yes s ↦ subst (PageOk img b) s (ok_at img b i t o p ps g.0 h.0 e)
      | no s ↦ all_ok img b (suc i) (t + roots_in p) (o + on_bits (get_or p 3 [])) ps g.2 h.1 (ap₂ ◌+◌ h.0.b_is links, next) j (omega arith) (omega arith)
    ]
