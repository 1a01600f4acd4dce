-- Finding one's way in an accepted image: from a root down the levels of its page to an out-link, which is the number of a root of the next band, or a rank.
-- Assumes nothing.
use mathlib.Core.List.{List, [], ◌∷◌, map, Memᴰ}
use mathlib.Core.Path.{◌≡◌, refl, sym, ap, ap₂, ◌∙◌, subst}
use Prim.Native.Nat.{ℕ, zero, suc, ◌+◌, ◌*◌, ◌-◌, ◌/◌, ◌^◌, ◌≤◌, ◌<◌}
use native.Mathlib.Nat.{add-zero}
use native.Mathlib.Omega.{arith}
use native.Mathlib.Decide.{dec_le}
use lib.Dec.{leb}
use borrow.Author.Tests.{le-leb, lt-leb}
use lib.ListN.{length, get_or, take, drop, length-drop}
use lib.Seq.{take_all}
use Rattle.format.specs.Seq.{All, numbers_from, rank_in, total, up_to}
use Rattle.format.specs.Trie.{on_bits, bit, child_at}
use Rattle.format.specs.Page.{Byte, offset}
use Rattle.format.specs.Image.{band_levels, image_levels, key_count, keys_of, out_link_count, page_b, page_count, page_levels, page_nodes, page_pairs, page_roots, page_t, root_count, page_with, prefixes_at, depth}
use Rattle.format.specs.Answer.{root_of}
use Rattle.format.specs.Place.{before, Reached}
use Rattle.format.proofs.Checked.{Checked}
use Rattle.format.proofs.Read.{page_four, page_shape, page_roots_lem, next_roots, next_more, next_last, band_roots_lem}
use Rattle.format.proofs.Back.{image_32, keys_descend}
use Rattle.format.proofs.Descent.{node_at_lem, child_place_lem, rank_at, key_prefix}
use Rattle.format.proofs.LastBelow.{last_below_lem}
use Rattle.format.proofs.Places.{place_child, offset_within, level_next}
use Rattle.format.proofs.Levels.{descend_parts, level_at, child_place, prefixes_asc, shape_below, level_count, level_valid, next_prefix, next_within, no_prefix, level_of_band, before_roots, before_links, before_next, nodes_are, pairs_split, node_is, node_index, node_within, place_within, child_at_place, child_at_index}

-- ---- the way down

-- the out-link of a place past the page's nodes
abbrev pub out_link : List ℕ → ℕ → ℕ → ℕ → ℕ
out_link img b i q = page_b img b i + (q - page_nodes img b i)

-- Place q is past the nodes of page i of band b, and its out-link is the number of prefix x, among the roots of the band below, or the keys.
pub record Out (img : List ℕ) (b i q x : ℕ) : Type 0 where
  pub past : page_nodes img b i ≤ q
  pub within : out_link img b i q < length (prefixes_at img (4 * b))
  pub prefix : get_or (prefixes_at img (4 * b)) (out_link img b i q) 0 ≡ x

module _ (img : List ℕ) (a : All Byte img) (c : Checked img) (some : 1 ≤ key_count img) (b : ℕ) (lo : 1 ≤ b) (hi : b ≤ 8) where
  -- a root
  pub reached_root : (i n : ℕ) → i < page_count img b → page_t img b i ≤ n → n < page_t img b i + page_roots img b i → Reached img b i 0 (n - page_t img b i) n (get_or (prefixes_at img (depth b 0)) n 0)
  reached_root i n h k m =
      record {
        j = n - page_t img b i;
        in_band = h;
        in_page = omega arith;
        inner = let e : length (get_or (page_levels img b i) 0 []) ≡ page_roots img b i = unfold Rattle.format.specs.Writer.roots_in in page_roots_lem img a c b lo hi i h in omega arith;
        place = omega arith;
        index = omega (arith, before_roots img a c some b lo hi i h);
        prefix = refl;
      }

  module _ (i l p n x : ℕ) (r : Reached img b i l p n x) where
    -- the node at the place is the node of the level
    pub reached_node : get_or (page_pairs img b i) p 0 ≡ get_or (level_at img (depth b l)) n 0
    reached_node =
        ap (λ (q : ℕ). get_or (page_pairs img b i) q 0) r.place
        ∙ node_is img a c some b lo hi i r.in_band l r.j r.in_page r.inner
        ∙ sym (ap (λ (m : ℕ). get_or (level_at img (depth b l)) m 0) r.index ∙ node_index img a c some b lo hi i r.in_band l r.j r.in_page r.inner)

    pub reached_place : p < page_nodes img b i
    reached_place = rw r.place (place_within img a c some b lo hi i r.in_band l r.j r.in_page r.inner)

    pub reached_index : n < length (prefixes_at img (depth b l))
    reached_index = rw r.index (node_within img a c some b lo hi i r.in_band l r.j r.in_page r.inner)

    pub reached_valid : (1 ≤ get_or (page_pairs img b i) p 0) × (get_or (page_pairs img b i) p 0 ≤ 3)
    reached_valid =
        let d : depth b l < 32 = omega (arith, r.in_page) in
        rw reached_node (node_at_lem (level_at img (depth b l)) n (level_valid img a c some (depth b l) d) (omega (arith, level_count img a c some (depth b l) d, reached_index)))

    -- no key goes on with a bit that is off
    pub reached_off : (t : ℕ) → t ≤ 1 → bit t (get_or (page_pairs img b i) p 0) ≡ 0 → Memᴰ (2 * x + t) (prefixes_at img (suc (depth b l))) → ⊥
    reached_off t lt off m =
        let d : depth b l < 32 = omega (arith, r.in_page) in
        no_prefix img a c some (depth b l) n t d reached_index lt (rw (← reached_node) off)
        (subst (λ (y : ℕ). Memᴰ (2 * y + t) (prefixes_at img (suc (depth b l)))) (sym r.prefix) m)

    module _ (t : ℕ) (lt : t ≤ 1) (on : 1 ≤ bit t (get_or (page_pairs img b i) p 0)) where
      on-level : 1 ≤ bit t (get_or (level_at img (depth b l)) n 0)
      on-level = rw (← reached_node) on

      on-page : 1 ≤ bit t (get_or (get_or (page_levels img b i) l []) r.j 0)
      on-page = subst (λ (m : ℕ). 1 ≤ bit t m) (ap (λ (q : ℕ). get_or (page_pairs img b i) q 0) r.place ∙ node_is img a c some b lo hi i r.in_band l r.j r.in_page r.inner) on

      next_place : child_place img b i p t ≡ offset (suc l) (page_levels img b i) + child_at (get_or (page_levels img b i) l []) r.j t
      next_place = ap (λ (q : ℕ). child_place img b i q t) r.place ∙ child_at_place img a c some b lo hi i r.in_band l r.j r.in_page r.inner t

      next-index : child_at (level_at img (depth b l)) n t ≡ total (map (λ k. on_bits (get_or (page_levels img b k) l [])) (numbers_from 0 i)) + child_at (get_or (page_levels img b i) l []) r.j t
      next-index = ap (λ (m : ℕ). child_at (level_at img (depth b l)) m t) r.index ∙ child_at_index img a c some b lo hi i r.in_band l r.j r.in_page r.inner t

      child-x : get_or (prefixes_at img (suc (depth b l))) (child_at (level_at img (depth b l)) n t) 0 ≡ 2 * x + t
      child-x =
          next_prefix img a c some (depth b l) n t (omega (arith, r.in_page)) reached_index lt on-level ∙ ap (λ (y : ℕ). 2 * y + t) r.prefix

      child-inner : child_at (get_or (page_levels img b i) l []) r.j t < on_bits (get_or (page_levels img b i) l [])
      child-inner = child_place_lem (get_or (page_levels img b i) l []) r.j t r.inner lt on-page

      -- an on bit of the first three levels: the child is in the same page, at the roots and the on bits before that bit
      pub reached_child : l < 3 → Reached img b i (suc l) (child_place img b i p t) (child_at (level_at img (depth b l)) n t) (2 * x + t)
      reached_child h =
          let d : suc (depth b l) ≡ depth b (suc l) = omega arith in
          record {
            j = child_at (get_or (page_levels img b i) l []) r.j t;
            in_band = r.in_band;
            in_page = omega arith;
            inner = omega (arith, child-inner, level_next (page_roots img b i) l (page_levels img b i) (page_shape img a c b lo hi i r.in_band) (omega (arith, page_four img a c b lo hi i)));
            place = next_place;
            index = next-index ∙ ap (◌+ child_at (get_or (page_levels img b i) l []) r.j t) (before_next img a c some b lo hi l i h r.in_band);
            prefix = ap (λ (m : ℕ). get_or (prefixes_at img m) (child_at (level_at img (depth b l)) n t) 0) (sym d) ∙ child-x;
          }

      -- an on bit of the fourth: B and what the child's place is past the page's nodes make the number of the prefix in the next level
      pub reached_out : l ≡ 3 → Out img b i (child_place img b i p t) (2 * x + t)
      reached_out h =
          let d : suc (depth b l) ≡ 4 * b = omega arith in
          let end : offset (suc l) (page_levels img b i) ≡ page_nodes img b i = ap (λ (m : ℕ). offset (suc m) (page_levels img b i)) h ∙ nodes_are img a c some b lo hi i r.in_band in
          let links : total (map (λ k. on_bits (get_or (page_levels img b k) l [])) (numbers_from 0 i)) ≡ page_b img b i =
          ap (λ (m : ℕ). total (map (λ k. on_bits (get_or (page_levels img b k) m [])) (numbers_from 0 i))) h ∙ before_links img a c some b lo hi i r.in_band in
          let place = next_place in
          let index = next-index in
          let number : child_at (level_at img (depth b l)) n t ≡ out_link img b i (child_place img b i p t) = omega arith in
          record {
            past = omega arith;
            within = rw (← number, ← d) (next_within img a c some (depth b l) n t (omega (arith, r.in_page)) reached_index lt on-level);
            prefix = ap₂ (λ (m k : ℕ). get_or (prefixes_at img m) k 0) (sym d) (sym number) ∙ child-x;
          }

-- ---- ranks, roots and pages

module _ (img : List ℕ) (a : All Byte img) (c : Checked img) (some : 1 ≤ key_count img) where
  -- the prefixes at a band's first level are as many as its roots
  pub roots_count : (b : ℕ) → 1 ≤ b → b ≤ 8 → length (prefixes_at img (depth b 0)) ≡ root_count img b
  unfolding band_levels up_to numbers_from
  roots_count b lo hi =
      sym (level_count img a c some (depth b 0) (omega arith))
      ∙ ap length (level_of_band img a c some b lo hi 0 (omega arith))
      ∙ (unfold Rattle.format.specs.Writer.roots_in in band_roots_lem img a c b lo hi)

  -- the number of a prefix is its rank
  pub prefix_rank : (d n : ℕ) → n < length (prefixes_at img d) → rank_in (prefixes_at img d) (get_or (prefixes_at img d) n 0) ≡ n
  prefix_rank d n h = rank_at (prefixes_at img d) n (prefixes_asc img a c some d) h

  -- the root of a key in band b
  pub root_is : (key b n : ℕ) → n < length (prefixes_at img (4 * (b - 1))) → get_or (prefixes_at img (4 * (b - 1))) n 0 ≡ key / 2 ^ (36 - 4 * b) → root_of img key b ≡ n
  unfolding root_of
  root_is key b n h e = ap (rank_in (prefixes_at img (4 * (b - 1)))) (sym e) ∙ prefix_rank (4 * (b - 1)) n h

  -- T rises from page to page
  pub t_rises : (b : ℕ) → 1 ≤ b → b ≤ 8 → (i m : ℕ) → i + m < page_count img b → page_t img b i + m ≤ page_t img b (i + m)
  t_rises b lo hi i zero h = omega (arith, ap (page_t img b) (add-zero i))
  t_rises b lo hi i (suc m) h =
      let e : i + suc m ≡ suc i + m = omega arith in
      omega (arith, ap (page_t img b) e, t_rises b lo hi (suc i) m (omega arith), next_roots img a c b lo hi i (omega arith), next_more img a c b lo hi i (omega arith), (c.page b i lo hi (omega arith)).some_roots)

  -- the page that has a root is the last whose T is at or below the root's number
  pub page_with_lem : (b i n : ℕ) → 1 ≤ b → b ≤ 8 → i < page_count img b → page_t img b i ≤ n → n < page_t img b i + page_roots img b i → page_with img b n ≡ i
  unfolding page_with
  page_with_lem b i n lo hi h k m =
      last_below_lem (page_count img b) (λ j. leb (page_t img b j) n) i h (le-leb (page_t img b i) n k)
      (λ j p q. let e : suc i + (j - suc i) ≡ j = omega arith in
      lt-leb (page_t img b j) n (omega (arith, ap (page_t img b) e, t_rises b lo hi (suc i) (j - suc i) (omega arith), next_roots img a c b lo hi i h, next_more img a c b lo hi i (omega arith))))

  -- a key that is listed has its prefix at each level
  pub listed_prefix : (key d : ℕ) → d ≤ 32 → Memᴰ key (keys_of img) → Memᴰ (key / 2 ^ (32 - d)) (prefixes_at img d)
  unfolding prefixes_at
  listed_prefix key d h m =
      let n : length (drop d (image_levels img)) ≡ 32 - d = length-drop d (image_levels img) ∙ ap (◌- d) (image_32 img a c) in
      subst (λ (w : ℕ). Memᴰ (key / 2 ^ w) (prefixes_at img d)) n
      (key_prefix key (length (prefixes_at img d)) (prefixes_at img d) (drop d (image_levels img)) (shape_below img a c some d)
      (subst (λ (l : List ℕ). Memᴰ key l) (keys_descend img a c ∙ sym (descend_parts (0 ∷ []) d (image_levels img))) m))

-- ---- every place of a page is a node's

pub record ReachedAt (img : List ℕ) (b i p : ℕ) : Type 0 where
  pub l : ℕ
  pub n : ℕ
  pub x : ℕ
  pub way : Reached img b i l p n x

-- a place is in one of the levels
record InLevel (p : ℕ) (page : List (List ℕ)) : Type 0 where
  l : ℕ
  j : ℕ
  in_page : l < length page
  inner : j < length (get_or page l [])
  place : p ≡ offset l page + j

in_level : (p : ℕ) (page : List (List ℕ)) → p < offset (length page) page → InLevel p page
in_level p [] h = absurd (omega arith)
in_level p (ns ∷ page) h =
    elim (dec_le (length ns) p) [
      | yes k ↦ let r = in_level (p - length ns) page (omega arith) in
          record { l = suc r.l; j = r.j; in_page = omega (arith, r.in_page); inner = r.inner; place = omega (arith, r.place) }
      | no k ↦ record { l = 0; j = p; in_page = omega arith; inner = omega arith; place = omega arith }
    ]

module _ (img : List ℕ) (a : All Byte img) (c : Checked img) (some : 1 ≤ key_count img) (b : ℕ) (lo : 1 ≤ b) (hi : b ≤ 8) (i : ℕ) (h : i < page_count img b) where
  pub reached_any : (p : ℕ) → p < page_nodes img b i → ReachedAt img b i p
  reached_any p k =
      let four = page_four img a c b lo hi i in
      let r = in_level p (page_levels img b i) (omega (arith, nodes_are img a c some b lo hi i h, ap (λ (n : ℕ). offset n (page_levels img b i)) four)) in
      record {
        l = r.l;
        n = before img b r.l i + r.j;
        x = get_or (prefixes_at img (depth b r.l)) (before img b r.l i + r.j) 0;
        way = record { j = r.j; in_band = h; in_page = omega (arith, r.in_page, four); inner = r.inner; place = r.place; index = refl; prefix = refl };
      }

  -- the on bits of a page lead to its nodes but the roots, and to its out-links
  pub links_total : page_roots img b i + on_bits (take (page_nodes img b i) (page_pairs img b i)) ≡ page_nodes img b i + out_link_count img b i
  unfolding out_link_count
  links_total =
      let four = page_four img a c b lo hi i in
      let nodes = nodes_are img a c some b lo hi i h in
      let last : offset 3 (page_levels img b i) + length (get_or (page_levels img b i) 3 []) ≡ page_nodes img b i = offset_within 3 (page_levels img b i) (omega (arith, four)) ∙ nodes in
      let split = pairs_split img a c some b lo hi i h in
      let at = place_child (page_roots img b i) 3 (page_levels img b i) (drop (page_nodes img b i) (page_pairs img b i)) (length (get_or (page_levels img b i) 3 [])) (page_shape img a c b lo hi i h) (omega (arith, four)) (omega arith) in
      ap₂ (λ (n : ℕ) (ps : List ℕ). page_roots img b i + on_bits (take n ps)) (sym last) split
      ∙ at
      ∙ ap₂ (λ (n : ℕ) (l : List ℕ). n + on_bits l) nodes (take_all (length (get_or (page_levels img b i) 3 [])) (get_or (page_levels img b i) 3 []) (omega arith))

-- ---- the page of a root

module _ (img : List ℕ) (a : All Byte img) (c : Checked img) where
  -- the last page whose T is at or below a root's number has that root
  pub page_holds : (b i n : ℕ) → 1 ≤ b → b ≤ 8 → i < page_count img b → (suc i < page_count img b → n < page_t img b (suc i)) → n < root_count img b → n < page_t img b i + page_roots img b i
  page_holds b i n lo hi h f k =
      elim (dec_le (suc (suc i)) (page_count img b)) [
        | yes m ↦ omega (arith, f m, next_roots img a c b lo hi i h, next_more img a c b lo hi i m)
        | no m ↦ omega (arith, next_roots img a c b lo hi i h, next_last img a c b lo hi i (omega arith))
      ]
