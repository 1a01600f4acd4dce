-- No list of up to 4,096 keys needs more than 384 pages, and no accepted image has more. A subtrie has at most 15 nodes, so two pages have above
-- 240, and with each page more there are at least 226 more. Bands 1 to 3 have at most 1, 16 and 256 roots of at most 15 nodes each; no band has
-- more out-links than there are keys, with at most four nodes for each.
-- Assumes nothing.
use mathlib.Core.Path.{◌≡◌, sym, ap, ◌∙◌, subst}
use mathlib.Core.Bool.{true}
use mathlib.Core.List.{List, [], ◌∷◌, map, map-map}
use Prim.Native.Nat.{ℕ, ◌+◌, ◌-◌, ◌*◌, ◌≤◌, ◌<◌}
use native.Mathlib.Omega.{arith}
use borrow.Author.Tests.{le-leb}
use lib.ListN.{length, get_or}
use Rattle.format.specs.Seq.{numbers_from, total}
use Rattle.format.specs.Key.{woven}
use Rattle.format.specs.Trie.{levels_of, on_bits}
use Rattle.format.specs.Page.{first_subtries, node_count}
use Rattle.format.specs.Image.{band_levels, bands, keys_of, lift_of, page_count}
use Rattle.format.specs.Question.{Yes}
use Rattle.format.specs.Writer.{ascending, bands_of, image_of, pages_of, pages_of_band, room_question, roots_in}
use Rattle.format.specs.Exact.{Accepted, WriterAccepts}
use Rattle.format.specs.Bounds.{Bounded, PageBound, pages_needed}
use Rattle.format.proofs.Lists.{all_numbers, map_same}
use Rattle.format.proofs.Jobs.{of_writable}
use Rattle.format.proofs.Trie.{Fits}
use Rattle.format.proofs.Members.{ascending_of, of_ascending, woven_fits}
use Rattle.format.proofs.Subtries.{NodeBounds, first_shape, length_first, node_bounds, node_count_beside, node_count_parts}
use Rattle.format.proofs.Pages.{Page, Paged, glue, glue_roots, glue_same}
use Rattle.format.proofs.Read.{band_page_count}
use Rattle.format.proofs.Back.{band_is, bands_of_lem}
use Rattle.format.proofs.Accepted.{facts}
use Rattle.format.proofs.Written.{Bands, Top, none, some, bytes_of, few_links, parts, the_pages}
use Rattle.format.proofs.Forth.{band_at, bands_of-row, image_bytes, key_bands}

-- ---- the nodes of pages

-- a page's first subtrie has at most 15 nodes, and no more than the page
first_few : (p : List (List ℕ)) → Page p → (node_count 1 (first_subtries 1 p) ≤ 15) × (node_count 1 (first_subtries 1 p) ≤ node_count (roots_in p) p)
first_few p h = (
  omega (arith, node_bounds 1 (first_subtries 1 p) (length_first 1 p ∙ h.four) (first_shape 1 (roots_in p) p h.some_roots h.shape)),
  omega (arith, node_count_parts 1 (roots_in p) p h.some_roots),
)

-- the nodes of a band or a page
abbrev band_nodes : List (List ℕ) → ℕ
band_nodes band = node_count (roots_in band) band

glue_nodes : (p : List (List ℕ)) (ps : List (List (List ℕ))) → Paged (p ∷ ps) → band_nodes (glue (p ∷ ps)) ≡ band_nodes p + band_nodes (glue ps)
glue_nodes p ps h = ap (λ (r : ℕ). node_count r (glue (p ∷ ps))) (glue_roots p ps h) ∙ node_count_beside (roots_in p) (roots_in (glue ps)) p (glue ps) (glue_same p ps h)

-- two pages have at least 241 nodes, and with each page more there are at least 226 more
many_nodes : (p q : List (List ℕ)) (ps : List (List (List ℕ))) → Paged (p ∷ q ∷ ps) → 241 + 226 * length ps ≤ band_nodes (glue (p ∷ q ∷ ps))
many_nodes p q [] h = omega (arith, glue_nodes p (q ∷ []) h, glue_nodes q [] h.2, h.1, first_few q h.2.0)
many_nodes p q (r ∷ ps) h = omega (arith, glue_nodes p (q ∷ r ∷ ps) h, many_nodes q r ps h.2, h.1, first_few q h.2.0)

few_nodes : (ps : List (List (List ℕ))) (m : ℕ) → Paged ps → band_nodes (glue ps) < 241 + 226 * m → length ps ≤ 1 + m
few_nodes [] m h k = omega arith
few_nodes (p ∷ []) m h k = omega arith
few_nodes (p ∷ q ∷ ps) m h k = omega (arith, many_nodes p q ps h)

-- ---- the pages of eight bands

module _ (n : ℕ) (band : ℕ → List (List ℕ)) (h : Bands n band) where
  nodes-at : (b : ℕ) → 1 ≤ b → b ≤ 8 → NodeBounds (roots_in (band b)) (band_nodes (band b)) (on_bits (get_or (band b) 3 []))
  nodes-at b lo hi = node_bounds (roots_in (band b)) (band b) (h.four b lo hi) (h.shape b lo hi)

  pages-at : (b m : ℕ) → 1 ≤ b → b ≤ 8 → band_nodes (band b) < 241 + 226 * m → length (pages_of (band b)) ≤ 1 + m
  pages-at b m lo hi k =
      let g = the_pages n band h b lo hi in
      few_nodes (pages_of (band b)) m g.paged (subst (λ (v : List (List ℕ)). band_nodes v < 241 + 226 * m) (sym g.glued) k)

  roots-1 : roots_in (band 1) ≤ 1
  roots-1 = go h.top
    where
      go : Top n (roots_in (band 1)) → roots_in (band 1) ≤ 1
      go (none e r) = omega arith
      go (some e r) = omega arith

  roots-2 : roots_in (band 2) ≤ 16
  roots-2 = omega (arith, roots-1, nodes-at 1 (omega arith) (omega arith), h.links 1 (omega arith) (omega arith))

  roots-3 : roots_in (band 3) ≤ 256
  roots-3 = omega (arith, roots-2, nodes-at 2 (omega arith) (omega arith), h.links 2 (omega arith) (omega arith))

  pages-1 : length (pages_of (band 1)) ≤ 1
  pages-1 = pages-at 1 0 (omega arith) (omega arith) (omega (arith, roots-1, nodes-at 1 (omega arith) (omega arith)))

  pages-2 : length (pages_of (band 2)) ≤ 1
  pages-2 = pages-at 2 0 (omega arith) (omega arith) (omega (arith, roots-2, nodes-at 2 (omega arith) (omega arith)))

  pages-3 : length (pages_of (band 3)) ≤ 17
  pages-3 = pages-at 3 16 (omega arith) (omega arith) (omega (arith, roots-3, nodes-at 3 (omega arith) (omega arith)))

  pages-later : (b : ℕ) → 4 ≤ b → b ≤ 8 → length (pages_of (band b)) ≤ 73
  pages-later b lo hi = pages-at b 72 (omega arith) hi (omega (arith, nodes-at b (omega arith) hi, few_links n band h b (omega arith) hi, h.few))

  pages-all : total (map (λ b. length (pages_of (band b))) bands) ≤ 384
  unfolding bands numbers_from total
  pages-all =
      omega (
        arith,
        pages-1,
        pages-2,
        pages-3,
        pages-later 4 (omega arith) (omega arith),
        pages-later 5 (omega arith) (omega arith),
        pages-later 6 (omega arith) (omega arith),
        pages-later 7 (omega arith) (omega arith),
        pages-later 8 (omega arith) (omega arith),
      )

  bands-bounded : (lift : ℕ) → Bounded (λ b. length (pages_of (band b))) (length (bytes_of lift n band))
  bands-bounded lift = record { band_1 = pages-1; band_2 = pages-2; band_3 = pages-3; later_bands = pages-later; all_bands = pages-all; size = omega (arith, (parts lift n band).size, pages-all) }

-- ---- the same counts by another name

same_bounded : (f g : ℕ → ℕ) (m n : ℕ) → ((b : ℕ) → 1 ≤ b → b ≤ 8 → f b ≡ g b) → m ≡ n → Bounded f m → Bounded g n
unfolding bands
same_bounded f g m n e d k =
    record {
      band_1 = omega (arith, k.band_1, e 1 (omega arith) (omega arith));
      band_2 = omega (arith, k.band_2, e 2 (omega arith) (omega arith));
      band_3 = omega (arith, k.band_3, e 3 (omega arith) (omega arith));
      later_bands = λ b lo hi. omega (arith, k.later_bands b lo hi, e b (omega arith) hi);
      all_bands = omega (arith, k.all_bands, ap total (map_same f g bands (all_numbers (λ b. f b ≡ g b) 1 8 (λ b lo hi. e b lo (omega arith)))));
      size = omega (arith, k.size);
    }

pages_needed_lem : (keys : List ℕ) (band : ℕ → List (List ℕ)) → bands_of keys ≡ map band bands → (b : ℕ) → 1 ≤ b → b ≤ 8 → pages_needed keys b ≡ length (pages_of (band b))
unfolding pages_needed pages_of_band
pages_needed_lem keys band e b lo hi = ap (λ (bs : List (List (List ℕ))). length (pages_of (get_or bs (b - 1) []))) e ∙ ap (λ (v : List (List ℕ)). length (pages_of v)) (band_is band b lo hi)

-- all of them, by the numbers of the bands or by the bands
pub pages_summed : (keys : List ℕ) → total (map (pages_needed keys) bands) ≡ total (map (λ band. length (pages_of band)) (bands_of keys))
unfolding bands
pages_summed keys =
    let band = band_at (levels_of keys) in
    let count : List (List ℕ) → ℕ = λ band. length (pages_of band) in
    ap total
    (map_same (pages_needed keys) (λ b. count (band b)) bands (all_numbers (λ b. pages_needed keys b ≡ count (band b)) 1 8 (λ b lo hi. pages_needed_lem keys band (bands_of-row keys) b lo (omega arith)))
    ∙ sym (map-map count band bands)
    ∙ ap (map count) (sym (bands_of-row keys)))

-- ---- of a list, and of an accepted image

list_bounded : (lift : ℕ) (keys : List ℕ) → Fits 32 keys → length keys ≤ 4096 → ascending keys ≡ true → Bounded (pages_needed keys) (length (image_of lift keys))
list_bounded lift keys fits few asc =
    let band = band_at (levels_of keys) in
    same_bounded (λ b. length (pages_of (band b))) (pages_needed keys) (length (bytes_of lift (length keys) band)) (length (image_of lift keys))
    (λ b lo hi. sym (pages_needed_lem keys band (bands_of-row keys) b lo hi))
    (ap length (sym (image_bytes lift keys)))
    (bands-bounded (length keys) band (key_bands keys (of_ascending keys asc) fits few) lift)

image_bounded : (img : List ℕ) → Accepted img → Bounded (page_count img) (length img)
image_bounded img a =
    let f = facts img a in
    let k = f.keys in
    same_bounded (pages_needed (keys_of img)) (page_count img) (length (image_of (lift_of img) (keys_of img))) (length img)
    (λ b lo hi. pages_needed_lem (keys_of img) (band_levels img) (bands_of_lem img a.bytes f.questions) b lo hi ∙ band_page_count img a.bytes f.questions b lo hi)
    (ap length f.back)
    (list_bounded (lift_of img) (keys_of img) k.fits (omega (arith, k.count_is, f.few)) (ascending_of (keys_of img) k.asc))

enough_room : (lift : ℕ) (list : List (ℕ × ℕ)) → WriterAccepts list → (buffer : List ℕ) → 24640 ≤ length buffer → Yes (room_question lift (woven list) buffer)
unfolding room_question
enough_room lift list w buffer h =
    let q = of_writable (woven list) w in
    let k = list_bounded lift (woven list) (woven_fits list) q.0 q.1 in
    le-leb (length (image_of lift (woven list))) (length buffer) (omega (arith, k.size))

pub page_bound : PageBound
page_bound = record { of_list = list_bounded; of_image = image_bounded; room = enough_room }
