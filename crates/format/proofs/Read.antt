-- What an accepted image's bands are: pages as the writer makes them, that hold the band's levels.
-- Assumes nothing.
use mathlib.Core.Path.{◌≡◌, refl, sym, ap, ap₂, ◌∙◌}
use mathlib.Core.List.{List, [], ◌∷◌, ◌++◌, map, map-append, map-map}
use Prim.Native.Nat.{ℕ, zero, suc, ◌+◌, ◌-◌, ◌*◌, ◌≤◌, ◌<◌}
use native.Mathlib.Numerals.{add-one}
use native.Mathlib.Omega.{arith}
use native.Mathlib.Decide.{ℕ_discrete}
use lib.Dec.{ltb}
use borrow.Author.Tests.{lt-ltb, le-ltb}
use lib.ListN.{length, get_or, take, drop, length-map}
use lib.Seq.{take-add, drop-drop}
use Rattle.format.specs.Seq.{All, numbers_from, total, up_to}
use Rattle.format.specs.Trie.{on_bits}
use Rattle.format.specs.Page.{Byte, node_count}
use Rattle.format.specs.Image.{band_level, band_levels, bands, next_t, out_link_count, page_b, page_count, page_levels, page_nodes, page_number, page_pairs, page_roots, page_t, pages_before, root_count}
use Rattle.format.specs.Question.{out_links_due}
use Rattle.format.specs.Writer.{band_bytes, page_bytes, pages_of, roots_in}
use Rattle.format.proofs.Lists.{all_take, all_drop, total-append, numbers-split, length_up_to, flat_map-map}
use Rattle.format.proofs.Trie.{Shape}
use Rattle.format.proofs.Shapes.{last_on}
use Rattle.format.proofs.Pages.{Page, Paged, Follows, glue, glue_four, glue_roots, glue_shape, glue_level, four_levels_lem, glue_links, last_on_four, shape_roots, pages_only}
use Rattle.format.proofs.Bytes.{length_pairs, pairs_small, length-levels_in, page_back, length_block}
use Rattle.format.proofs.NodeQuestions.{nodes_shape}
use Rattle.format.proofs.Checked.{Counts, no_keys, some_keys, Checked, cond_yes, cond_no, page_nodes_lem}

-- ---- pages within the image

pub bands-split : (b : ℕ) → 1 ≤ b → b ≤ 8 → bands ≡ numbers_from 1 (b - 1) ++ b ∷ numbers_from (suc b) (8 - b)
unfolding bands numbers_from
bands-split b lo hi =
    let n : 8 ≡ (b - 1) + suc (8 - b) = omega arith in
    let at : 1 + (b - 1) ≡ b = omega arith in
    ap (numbers_from 1) n ∙ numbers-split 1 (b - 1) (suc (8 - b)) ∙ ap (λ (c : ℕ). numbers_from 1 (b - 1) ++ c ∷ numbers_from (suc c) (8 - b)) at

pub pages_within : (img : List ℕ) (b : ℕ) → 1 ≤ b → b ≤ 8 → pages_before img b + page_count img b ≤ total (map (page_count img) bands)
unfolding pages_before total
pages_within img b lo hi =
    let e : total (map (page_count img) bands) ≡ total (map (page_count img) (numbers_from 1 (b - 1))) + total (map (page_count img) (b ∷ numbers_from (suc b) (8 - b))) =
    ap (λ (l : List ℕ). total (map (page_count img) l)) (bands-split b lo hi)
    ∙ ap total (map-append (page_count img) (numbers_from 1 (b - 1)) (b ∷ numbers_from (suc b) (8 - b)))
    ∙ total-append (map (page_count img) (numbers_from 1 (b - 1))) (map (page_count img) (b ∷ numbers_from (suc b) (8 - b))) in
    omega arith

module _ (img : List ℕ) (a : All Byte img) (c : Checked img) (b : ℕ) (lo : 1 ≤ b) (hi : b ≤ 8) where
  pub page_within : (i : ℕ) → i < page_count img b → 64 * page_number img b i + 64 ≤ length img
  unfolding page_number
  page_within i h = omega (arith, c.header.size, pages_within img b lo hi)

  pub pairs_240 : (i : ℕ) → i < page_count img b → length (page_pairs img b i) ≡ 240
  unfolding page_pairs
  pairs_240 i h = length_pairs _ ∙ ap (4 *◌) (length_block img (64 * page_number img b i) (page_within i h) a)

  pub page_four : (i : ℕ) → length (page_levels img b i) ≡ 4
  unfolding page_levels
  page_four i = length-levels_in 4 (page_roots img b i) (page_pairs img b i)

  pub page_shape : (i : ℕ) → i < page_count img b → Shape (page_roots img b i) (page_levels img b i)
  unfolding page_levels page_pairs
  page_shape i h =
      nodes_shape (page_roots img b i) (page_pairs img b i) (pairs_small (take 60 (drop (64 * page_number img b i + 4) img)) (all_take Byte 60 (drop (64 * page_number img b i + 4) img) (all_drop Byte (64 * page_number img b i + 4) img a)))
      (pairs_240 i h) (page_nodes_lem img b i (c.page b i lo hi h))

  pub page_roots_lem : (i : ℕ) → i < page_count img b → roots_in (page_levels img b i) ≡ page_roots img b i
  page_roots_lem i h = shape_roots (page_roots img b i) (page_levels img b i) (page_four i) (page_shape i h)

  pub page_bytes_lem : (i : ℕ) → i < page_count img b → page_bytes (page_t img b i) (page_b img b i) (page_levels img b i) ≡ take 64 (drop (64 * page_number img b i) img)
  unfolding page_t page_b page_levels page_nodes page_pairs
  page_bytes_lem i h = page_back img (64 * page_number img b i) (page_within i h) a (page_roots img b i) (page_pairs img b i) refl (c.page b i lo hi h).zeros

  -- ---- T goes on from page to page

  pub next_roots : (i : ℕ) → i < page_count img b → page_t img b i + page_roots img b i ≡ next_t img b i
  unfolding page_roots
  next_roots i h = omega (arith, (c.page b i lo hi h).some_roots)

  pub next_more : (i : ℕ) → suc i < page_count img b → next_t img b i ≡ page_t img b (suc i)
  unfolding next_t
  next_more i h = cond_yes (ltb (i + 1) (page_count img b)) _ _ (lt-ltb (i + 1) (page_count img b) (omega arith)) ∙ ap (page_t img b) (add-one i)

  pub next_last : (i : ℕ) → suc i ≡ page_count img b → next_t img b i ≡ root_count img b
  unfolding next_t
  next_last i h = cond_no (ltb (i + 1) (page_count img b)) _ _ (le-ltb (i + 1) (page_count img b) (omega arith))

  -- ---- the band's pages

  pub a_page : (i : ℕ) → i < page_count img b → Page (page_levels img b i)
  unfolding page_nodes
  a_page i h =
      let p = c.page b i lo hi h in
      let e = page_roots_lem i h in
      record { four = page_four i; shape = rw e (page_shape i h); some_roots = rw e p.some_roots; fits = rw e p.within }

  follows : (i m : ℕ) → i + suc m ≡ page_count img b → Follows (node_count (roots_in (page_levels img b i)) (page_levels img b i)) (map (page_levels img b) (numbers_from (suc i) m))
  unfolding page_nodes numbers_from
  follows i zero e = tt
  follows i (suc m) e = rw (page_roots_lem i (omega arith)) (c.page b (suc i) lo hi (omega arith)).full

  pub pages_paged : (i m : ℕ) → i + m ≡ page_count img b → Paged (map (page_levels img b) (numbers_from i m))
  unfolding numbers_from
  pages_paged i zero e = tt
  pages_paged i (suc m) e = (a_page i (omega arith), follows i m e, pages_paged (suc i) m (omega arith))

  pub pages_roots : (i m : ℕ) → i + suc m ≡ page_count img b → page_t img b i + roots_in (glue (map (page_levels img b) (numbers_from i (suc m)))) ≡ root_count img b
  unfolding numbers_from
  pages_roots i zero e =
      omega (arith, glue_roots (page_levels img b i) [] (pages_paged i 1 e), page_roots_lem i (omega arith), next_roots i (omega arith), next_last i (omega arith), none)
    where
      none : roots_in (glue []) ≡ 0
      none = unfold roots_in in refl
  pages_roots i (suc m) e =
      omega (
        arith,
        glue_roots (page_levels img b i) (map (page_levels img b) (numbers_from (suc i) (suc m))) (pages_paged i (suc (suc m)) e),
        page_roots_lem i (omega arith),
        next_roots i (omega arith),
        next_more i (omega arith),
        pages_roots (suc i) m (omega arith),
      )

  pub pages_bytes : (i m t o : ℕ) → i + m ≡ page_count img b → (1 ≤ m → t ≡ page_t img b i) → (1 ≤ m → o ≡ page_b img b i)
      → band_bytes t o (map (page_levels img b) (numbers_from i m)) ≡ take (64 * m) (drop (64 * page_number img b i) img)
  unfolding numbers_from band_bytes page_number out_link_count
  pages_bytes i zero t o e ft fo = refl
  pages_bytes i (suc m) t o e ft fo =
      let size : 64 * suc m ≡ 64 + 64 * m = omega arith in
      let next : 64 * (1 + pages_before img b + i) + 64 ≡ 64 * (1 + pages_before img b + suc i) = omega arith in
      ap₂ ◌++◌
      (ap₂ (λ (t o : ℕ). page_bytes t o (page_levels img b i)) (ft (omega arith)) (fo (omega arith)) ∙ page_bytes_lem i (omega arith))
      (pages_bytes (suc i) m _ _ (omega arith)
      (λ k. omega (arith, ft (omega arith), page_roots_lem i (omega arith), next_roots i (omega arith), next_more i (omega arith)))
      (λ k. omega (arith, fo (omega arith), (c.page b (suc i) lo hi (omega arith)).counters)))
      ∙ sym (ap (λ (n : ℕ). take n (drop (64 * (1 + pages_before img b + i)) img)) size
      ∙ take-add 64 (64 * m) (drop (64 * (1 + pages_before img b + i)) img)
      ∙ ap (λ (l : List ℕ). take 64 (drop (64 * (1 + pages_before img b + i)) img) ++ take (64 * m) l) (drop-drop 64 (64 * (1 + pages_before img b + i)) img ∙ ap (λ (n : ℕ). drop n img) next))

  -- ---- the band

  pub band_paged : Paged (map (page_levels img b) (up_to (page_count img b)))
  unfolding up_to
  band_paged = pages_paged 0 (page_count img b) (omega arith)

  pub band_glued : band_levels img b ≡ glue (map (page_levels img b) (up_to (page_count img b)))
  unfolding band_levels band_level up_to numbers_from
  band_glued = (λ i. at 0 i ∷ at 1 i ∷ at 2 i ∷ at 3 i ∷ []) ∙ four_levels_lem (glue (map (page_levels img b) (up_to (page_count img b)))) (glue_four (map (page_levels img b) (up_to (page_count img b))) band_paged)
    where
      at : (l : ℕ) → band_level img b l ≡ get_or (glue (map (page_levels img b) (up_to (page_count img b)))) l []
      at l = sym (glue_level l (map (page_levels img b) (up_to (page_count img b))) band_paged ∙ flat_map-map (page_levels img b) (λ p. get_or p l []) (up_to (page_count img b)))

  -- the pages are those that the writer makes of the band's levels
  pub band_pages : pages_of (band_levels img b) ≡ map (page_levels img b) (up_to (page_count img b))
  band_pages = ap pages_of band_glued ∙ pages_only (map (page_levels img b) (up_to (page_count img b))) band_paged

  pub band_page_count : length (pages_of (band_levels img b)) ≡ page_count img b
  band_page_count = ap length band_pages ∙ length-map (up_to (page_count img b)) (page_levels img b) ∙ length_up_to (page_count img b)

  pub band_four : length (band_levels img b) ≡ 4
  unfolding band_levels up_to numbers_from
  band_four = refl

  pub no_roots : page_count img b ≡ 0 → root_count img b ≡ 0
  no_roots e = go c.header.counts
    where
      go : Counts img → root_count img b ≡ 0
      go (no_keys k f) = (f b lo hi).1
      go (some_keys k p r f) =
          elim (ℕ_discrete b 1) [
            | yes one ↦ absurd (omega (arith, ap (page_count img) one))
            | no more ↦ absurd (omega (arith, f b (omega arith) hi))
          ]

  pub band_roots_lem : roots_in (band_levels img b) ≡ root_count img b
  unfolding up_to numbers_from
  band_roots_lem = ap roots_in band_glued ∙ go (page_count img b) refl
    where
      go : (n : ℕ) → page_count img b ≡ n → roots_in (glue (map (page_levels img b) (numbers_from 0 n))) ≡ root_count img b
      go zero e = unfold roots_in in sym (no_roots e)
      go (suc m) e = omega (arith, pages_roots 0 m (omega arith), (c.page b 0 lo hi (omega arith)).counters.0)

  pub band_shape : Shape (root_count img b) (band_levels img b)
  band_shape = rw (← band_roots_lem, band_glued) (glue_shape (map (page_levels img b) (up_to (page_count img b))) band_paged)

  pub band_links_lem : on_bits (get_or (band_levels img b) 3 []) ≡ out_links_due img b
  unfolding out_link_count
  band_links_lem =
      ap (λ (v : List (List ℕ)). on_bits (get_or v 3 [])) band_glued
      ∙ glue_links (map (page_levels img b) (up_to (page_count img b))) band_paged
      ∙ ap total (map-map (λ p. on_bits (get_or p 3 [])) (page_levels img b) (up_to (page_count img b)))
      ∙ c.link b lo hi

  pub band_last : last_on (root_count img b) (band_levels img b) ≡ out_links_due img b
  band_last = last_on_four (root_count img b) (band_levels img b) band_four ∙ band_links_lem

  pub band_bytes_lem : band_bytes 0 0 (pages_of (band_levels img b)) ≡ take (64 * page_count img b) (drop (64 * page_number img b 0) img)
  unfolding up_to
  band_bytes_lem =
      ap (band_bytes 0 0) band_pages
      ∙ pages_bytes 0 (page_count img b) 0 0 (omega arith) (λ k. sym (c.page b 0 lo hi k).counters.0) (λ k. sym (c.page b 0 lo hi k).counters.1)
