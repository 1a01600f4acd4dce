-- The levels of an accepted image: their nodes and prefixes, and where the nodes of a page stand in them.
-- Assumes nothing.
use mathlib.Core.List.{List, [], ◌∷◌, ◌++◌, map, flatten, Memᴰ}
use mathlib.Core.Path.{◌≡◌, refl, sym, ap, ◌∙◌, subst}
use Prim.Native.Nat.{ℕ, zero, suc, ◌+◌, ◌*◌, ◌-◌, ◌≤◌, ◌<◌}
use native.Mathlib.Nat.{zero-add}
use native.Mathlib.Omega.{arith}
use lib.ListN.{length, get_or, take, drop, take-append-drop}
use lib.Seq.{take-suc, drop-cons}
use Rattle.format.specs.Seq.{All, numbers_from, total, up_to}
use Rattle.format.specs.Trie.{below, descend, on_bits, bit, child_at}
use Rattle.format.specs.Page.{Byte, offset}
use Rattle.format.specs.Image.{band_level, band_levels, bands, image_levels, key_count, keys_of, out_link_count, page_b, page_count, page_levels, page_nodes, page_pairs, page_roots, page_t, root_count, prefixes_at, depth}
use Rattle.format.specs.Place.{before}
use Rattle.format.proofs.Lists.{map_same, all_numbers}
use Rattle.format.proofs.Trie.{Shape, Nodes, Asc, descend_snoc}
use Rattle.format.proofs.Shapes.{last_on, shape_left, shape_right, descend_keys}
use Rattle.format.proofs.Bytes.{levels_join}
use Rattle.format.proofs.Checked.{Checked, Counts, no_keys, some_keys}
use Rattle.format.proofs.Read.{page_four, page_shape, page_roots_lem, band_four}
use Rattle.format.proofs.Counters.{t_counts, b_counts}
use Rattle.format.proofs.Back.{image_shape, image_32}
use Rattle.format.proofs.Descent.{child_place_lem, length-below, child_prefix, bit_of_mem}
use Rattle.format.proofs.Places.{row_end, row_within, row_node, row_child, level_next, run_at, run_within, run_before, fours_at}

pub descend_parts : (ps : List ℕ) (d : ℕ) (ls : List (List ℕ)) → descend (descend ps (take d ls)) (drop d ls) ≡ descend ps ls
unfolding descend
descend_parts ps zero ls = refl
descend_parts ps (suc d) [] = refl
descend_parts ps (suc d) (ns ∷ ls) = descend_parts (below ps ns) d ls

-- the nodes of level d, from 0
unfoldable pub level_at : List ℕ → ℕ → List ℕ
level_at img d = get_or (image_levels img) d []

-- level 32's prefixes are the keys
pub prefixes_keys : (img : List ℕ) → prefixes_at img 32 ≡ keys_of img
unfolding keys_of
prefixes_keys img = refl

-- the place of the child of bit c of the node at place p: the roots, and the on bits before that bit
abbrev pub child_place : List ℕ → ℕ → ℕ → ℕ → ℕ → ℕ
child_place img b i p c = page_roots img b i + child_at (page_pairs img b i) p c

module _ (img : List ℕ) (a : All Byte img) (c : Checked img) (some : 1 ≤ key_count img) where
  -- ---- the levels

  pub one_root : root_count img 1 ≡ 1
  one_root = go c.header.counts
    where
      go : Counts img → root_count img 1 ≡ 1
      go (no_keys z f) = absurd (omega arith)
      go (some_keys k p r f) = r

  levels-one : Shape 1 (image_levels img)
  levels-one = rw one_root at (image_shape img a c)

  pub prefixes_asc : (d : ℕ) → Asc (prefixes_at img d)
  unfolding prefixes_at
  prefixes_asc d =
      (descend_keys 0 (0 ∷ []) (take d (image_levels img)) tt (omega arith, tt) (shape_left 1 (take d (image_levels img)) (drop d (image_levels img)) (rw (take-append-drop d (image_levels img)) levels-one))).asc

  prefixes-length : (d : ℕ) → length (prefixes_at img d) ≡ last_on 1 (take d (image_levels img))
  unfolding prefixes_at
  prefixes-length d =
      (descend_keys 0 (0 ∷ []) (take d (image_levels img)) tt (omega arith, tt) (shape_left 1 (take d (image_levels img)) (drop d (image_levels img)) (rw (take-append-drop d (image_levels img)) levels-one))).count_is

  pub shape_below : (d : ℕ) → Shape (length (prefixes_at img d)) (drop d (image_levels img))
  shape_below d = rw (prefixes-length d) (shape_right 1 (take d (image_levels img)) (drop d (image_levels img)) (rw (take-append-drop d (image_levels img)) levels-one))

  shape-level : (d : ℕ) → d < 32 → Shape (length (prefixes_at img d)) (level_at img d ∷ drop (suc d) (image_levels img))
  unfolding level_at
  shape-level d h = subst (Shape (length (prefixes_at img d))) (drop-cons (image_levels img) d [] (omega (arith, image_32 img a c))) (shape_below d)

  pub level_count : (d : ℕ) → d < 32 → length (level_at img d) ≡ length (prefixes_at img d)
  level_count d h = (shape-level d h).0

  pub level_valid : (d : ℕ) → d < 32 → Nodes (level_at img d)
  level_valid d h = (shape-level d h).1

  pub prefixes_next : (d : ℕ) → d < 32 → prefixes_at img (suc d) ≡ below (prefixes_at img d) (level_at img d)
  unfolding prefixes_at level_at
  prefixes_next d h =
      ap (descend (0 ∷ [])) (take-suc (image_levels img) d [] (omega (arith, image_32 img a c))) ∙ descend_snoc (0 ∷ []) (take d (image_levels img)) (get_or (image_levels img) d [])

  -- the bit of a node leads to the prefix with that bit
  pub next_prefix : (d n t : ℕ) → d < 32 → n < length (prefixes_at img d) → t ≤ 1 → 1 ≤ bit t (get_or (level_at img d) n 0)
      → get_or (prefixes_at img (suc d)) (child_at (level_at img d) n t) 0 ≡ 2 * get_or (prefixes_at img d) n 0 + t
  next_prefix d n t h k lt b =
      ap (λ (l : List ℕ). get_or l (child_at (level_at img d) n t) 0) (prefixes_next d h) ∙ child_prefix (prefixes_at img d) (level_at img d) n (level_count d h) (level_valid d h) k t lt b

  pub next_within : (d n t : ℕ) → d < 32 → n < length (prefixes_at img d) → t ≤ 1 → 1 ≤ bit t (get_or (level_at img d) n 0) → child_at (level_at img d) n t < length (prefixes_at img (suc d))
  next_within d n t h k lt b =
      omega (arith, child_place_lem (level_at img d) n t (omega (arith, level_count d h)) lt b, ap length (prefixes_next d h), length-below (prefixes_at img d) (level_at img d) (level_count d h) (level_valid d h))

  -- no key goes on with a bit that is off
  pub no_prefix : (d n t : ℕ) → d < 32 → n < length (prefixes_at img d) → t ≤ 1 → bit t (get_or (level_at img d) n 0) ≡ 0 → Memᴰ (2 * get_or (prefixes_at img d) n 0 + t) (prefixes_at img (suc d)) → ⊥
  no_prefix d n t h k lt b m =
      omega (arith, bit_of_mem (prefixes_at img d) (level_at img d) n t (prefixes_asc d) (level_valid d h) k lt (subst (λ (l : List ℕ). Memᴰ (2 * get_or (prefixes_at img d) n 0 + t) l) (prefixes_next d h) m))

  -- ---- pages and levels

  module _ (b : ℕ) (lo : 1 ≤ b) (hi : b ≤ 8) where
    pub level_of_band : (l : ℕ) → l < 4 → level_at img (depth b l) ≡ band_level img b l
    unfolding level_at image_levels bands
    level_of_band l h =
        let e : 1 + (b - 1) ≡ b = omega arith in
        fours_at (band_levels img) 1 8 (b - 1) l (λ t lo hi. band_four img a c t lo (omega arith)) (omega arith) h ∙ ap (λ (t : ℕ). get_or (band_levels img t) l []) e ∙ at l h
      where
        at : (l : ℕ) → l < 4 → get_or (band_levels img b) l [] ≡ band_level img b l
        at zero h = unfold band_levels up_to numbers_from in refl
        at (suc zero) h = unfold band_levels up_to numbers_from in refl
        at (suc (suc zero)) h = unfold band_levels up_to numbers_from in refl
        at (suc (suc (suc zero))) h = unfold band_levels up_to numbers_from in refl
        at (suc (suc (suc (suc l)))) h = absurd (omega arith)

    -- T counts the roots before a page
    pub before_roots : (i : ℕ) → i < page_count img b → before img b 0 i ≡ page_t img b i
    unfolding before
    before_roots i h =
        ap total (map_same (λ k. length (get_or (page_levels img b k) 0 [])) (page_roots img b) (numbers_from 0 i)
        (all_numbers (λ k. length (get_or (page_levels img b k) 0 []) ≡ page_roots img b k) 0 i (λ k p q. root-level k (omega arith))))
        ∙ (unfold up_to in sym (t_counts img a c b lo hi i h))
      where
        root-level : (s : ℕ) → s < page_count img b → length (get_or (page_levels img b s) 0 []) ≡ page_roots img b s
        root-level s h = unfold Rattle.format.specs.Writer.roots_in in page_roots_lem img a c b lo hi s h

    -- B the on bits of the fourth levels
    pub before_links : (i : ℕ) → i < page_count img b → total (map (λ k. on_bits (get_or (page_levels img b k) 3 [])) (numbers_from 0 i)) ≡ page_b img b i
    unfolding up_to out_link_count
    before_links i h = sym (b_counts img a c b lo hi i h)

    -- and the nodes of a later level are the on bits of the level above
    pub before_next : (l i : ℕ) → l < 3 → i < page_count img b → total (map (λ k. on_bits (get_or (page_levels img b k) l [])) (numbers_from 0 i)) ≡ before img b (suc l) i
    unfolding before
    before_next l i h k =
        ap total (map_same (λ k. on_bits (get_or (page_levels img b k) l [])) (λ k. length (get_or (page_levels img b k) (suc l) [])) (numbers_from 0 i)
        (all_numbers (λ k. on_bits (get_or (page_levels img b k) l []) ≡ length (get_or (page_levels img b k) (suc l) [])) 0 i
        (λ j p q. sym (level_next (page_roots img b j) l (page_levels img b j) (page_shape img a c b lo hi j (omega arith)) (omega (arith, page_four img a c b lo hi j))))))

    module _ (i : ℕ) (in_band : i < page_count img b) where
      shaped : Shape (page_roots img b i) (page_levels img b i)
      shaped = page_shape img a c b lo hi i in_band

      pub four : length (page_levels img b i) ≡ 4
      four = page_four img a c b lo hi i

      pub nodes_are : offset 4 (page_levels img b i) ≡ page_nodes img b i
      unfolding page_nodes page_levels
      nodes_are = row_end (page_pairs img b i) (page_roots img b i) shaped

      pub pairs_split : page_pairs img b i ≡ flatten (page_levels img b i) ++ drop (page_nodes img b i) (page_pairs img b i)
      unfolding page_levels page_nodes
      pairs_split = levels_join 4 (page_roots img b i) (page_pairs img b i)

      -- the on bits of the band's level l before node j of the page's, or its end: those of the earlier pages, and those before it in the page
      pub before_in : (l j : ℕ) → l < 4 → j ≤ length (get_or (page_levels img b i) l [])
          → on_bits (take (before img b l i + j) (level_at img (depth b l))) ≡ total (map (λ k. on_bits (get_or (page_levels img b k) l [])) (numbers_from 0 i)) + on_bits (take j (get_or (page_levels img b i) l []))
      unfolding before band_level up_to
      before_in l j lv inner =
          ap (λ (ns : List ℕ). on_bits (take (before img b l i + j) ns)) (level_of_band l lv)
          ∙ run_before (λ k. get_or (page_levels img b k) l []) 0 (page_count img b) i j in_band (rw (zero-add i) inner)
          ∙ ap (λ (k : ℕ). total (map (λ k. on_bits (get_or (page_levels img b k) l [])) (numbers_from 0 i)) + on_bits (take j (get_or (page_levels img b k) l []))) (zero-add i)

      -- node j of level l of the page: its place and its index in the band
      module _ (l j : ℕ) (lv : l < 4) (inner : j < length (get_or (page_levels img b i) l [])) where
        pub node_is : get_or (page_pairs img b i) (offset l (page_levels img b i) + j) 0 ≡ get_or (get_or (page_levels img b i) l []) j 0
        unfolding page_levels
        node_is = row_node (page_pairs img b i) (page_roots img b i) shaped l j lv inner

        pub node_index : get_or (level_at img (depth b l)) (before img b l i + j) 0 ≡ get_or (get_or (page_levels img b i) l []) j 0
        unfolding before band_level up_to
        node_index =
            ap (λ (ns : List ℕ). get_or ns (before img b l i + j) 0) (level_of_band l lv)
            ∙ run_at (λ k. get_or (page_levels img b k) l []) 0 (page_count img b) i j in_band (rw (zero-add i) inner)
            ∙ ap (λ (k : ℕ). get_or (get_or (page_levels img b k) l []) j 0) (zero-add i)

        pub node_within : before img b l i + j < length (prefixes_at img (depth b l))
        unfolding before band_level up_to
        node_within =
            omega (
              arith,
              run_within (λ k. get_or (page_levels img b k) l []) 0 (page_count img b) i j in_band (rw (zero-add i) inner),
              ap length (level_of_band l lv),
              level_count (depth b l) (omega arith),
            )

        pub place_within : offset l (page_levels img b i) + j < page_nodes img b i
        unfolding page_levels page_nodes
        place_within = row_within (page_pairs img b i) (page_roots img b i) shaped l j lv inner

        -- the child's place in the page
        pub child_at_place : (t : ℕ) → child_place img b i (offset l (page_levels img b i) + j) t ≡ offset (suc l) (page_levels img b i) + child_at (get_or (page_levels img b i) l []) j t
        unfolding page_levels
        child_at_place t = row_child (page_pairs img b i) (page_roots img b i) shaped l j lv inner t

        -- and its index in the next level
        pub child_at_index : (t : ℕ) → child_at (level_at img (depth b l)) (before img b l i + j) t ≡ total (map (λ k. on_bits (get_or (page_levels img b k) l [])) (numbers_from 0 i)) + child_at (get_or (page_levels img b i) l []) j t
        child_at_index zero = before_in l j lv (omega arith)
        child_at_index (suc t) = omega (arith, before_in l j lv (omega arith), node_index)
