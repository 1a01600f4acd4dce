-- A subtrie read at a spot, and the spot after it.
-- Assumes nothing.
use mathlib.Core.List.{List, Memᴰ}
use mathlib.Core.Path.{◌≡◌, refl, sym, ap, ap₂, subst, ◌∙◌}
use Prim.Native.Nat.{ℕ, suc, ◌+◌, ◌-◌, ◌*◌, ◌/◌, ◌%◌, ◌^◌, ◌≤◌, ◌<◌}
use native.Mathlib.Nat.{zero-add}
use native.Mathlib.Omega.{arith}
use lib.Count.{ones}
use lib.ListN.{length, get_or, take, drop, length-drop}
use lib.Seq.{get_or-drop, get_or-take, length-take-le}
use Rattle.format.specs.Seq.{rank_in}
use Rattle.format.specs.Page.{Byte, pairs_at}
use Rattle.format.specs.Image.{page_b, page_nodes, page_number, page_pairs, page_roots, page_t, depth, prefixes_at}
use Rattle.format.proofs.Descent.{asc_lt, is_in-mem, mem_at}
use Rattle.format.proofs.Lists.{all_take, all_drop}
use Rattle.format.proofs.Read.{page_within}
use Rattle.format.proofs.Levels.{prefixes_asc}
use Rattle.format.proofs.Walk.{reached_index, reached_place, reached_valid}
use Rattle.reader.specs.Page.{node_of}
use Rattle.reader.proofs.Nodes.{pair_at}
use Rattle.nodes.specs.Words.{words_of}
use Rattle.pages.specs.declared.Page.{Page}
use Rattle.subtries.specs.declared.spot.Spot.{Spot}
use Rattle.pages.specs.Page.{Ready, PageRead}
use Rattle.subtries.specs.Spot.{LevelStart, SpotAt, root_prefix}
use Rattle.subtries.specs.Subtrie.{as_bit, set_of, level_set, place_after, bits_after, start_in, StartsRight, SubtrieRead}
use Rattle.pages.proofs.Pages.{bytes, checked, t_small}
use Rattle.pages.proofs.Counts.{rank_few}
use Rattle.subtries.proofs.Subtries.{link_is, root_way, start₀, start₁, start₂, start₃}
use Rattle.subtries.proofs.Next.{Gap, gap_first, gap_next, gap_rank, start_shift, rank_run}
use Rattle.subtries.proofs.Levels.{level_next, level_room, read_all}

-- the page's part of the image
pub part_is : (img : List ℕ) (at : ℕ) → take (at + 64 - at) (drop at img) ≡ take 64 (drop at img)
part_is img at = let e : at + 64 - at ≡ 64 = omega arith in ap (λ (k : ℕ). take k (drop at img)) e

module _ {img : List ℕ} (r : Ready img) {b : ℕ} (lo : 1 ≤ b) (hi : b ≤ 8) {spot : Spot} (s : SpotAt img b spot) where
  pub bytes_fit : spot.at + 64 ≤ length img
  bytes_fit = omega (arith, s.at_is, page_within img (bytes r) (checked r) b lo hi s.i s.in_band)

  pub root_small : spot.root.0 < 65600
  root_small = omega (arith, s.to, s.end_is, t_small r b s.i, ((checked r).page b s.i lo hi s.in_band).few_roots)

  pub link_small : spot.link.0 < 65536
  link_small = omega (arith, s.link_is, rank_few r b lo hi (16 * root_prefix img b spot.root.0))

  module _ {part : List ℕ} (ep : part ≡ take 64 (drop spot.at img)) where
    pub part_length : length part ≡ 64
    part_length = ap length ep ∙ length-take-le 64 (drop spot.at img) (omega (arith, bytes_fit, length-drop spot.at img))

    pub read_node_is : (j : ℕ) → j < 240 → node_of part j ≡ get_or (page_pairs img b s.i) j 0
    unfolding page_pairs
    read_node_is j h =
        let at : ℕ = spot.at in
        let k : 4 + j / 4 < 64 = omega arith in
        let k' : j / 4 < 60 = omega arith in
        let e : get_or part (4 + j / 4) 0 ≡ get_or (take 60 (drop (at + 4) img)) (j / 4) 0 =
        ap (λ (l : List ℕ). get_or l (4 + j / 4) 0) ep ∙ rw (get_or-take, get_or-drop, get_or-take, get_or-drop) (ap (λ (q : ℕ). get_or img q 0) (let m : at + (4 + j / 4) ≡ at + 4 + j / 4 = omega arith in m)) in
        ap (λ (v : ℕ). v / 4 ^ (3 - j % 4) % 4) e
        ∙ sym (pair_at (take 60 (drop (at + 4) img)) j (all_take Byte 60 (drop (at + 4) img) (all_drop Byte (at + 4) img (bytes r))))
        ∙ ap (λ (q : ℕ). get_or (pairs_at img q) j 0) s.at_is

    -- the first node of a level
    module _ {l w base p : ℕ} (c : LevelStart img b s.i l w base p) where
      pub start_fits : p < 240
      start_fits =
          omega (arith, ((checked r).page b s.i lo hi s.in_band).within, reached_place img (bytes r) (checked r) r.some b lo hi s.i l p c.n c.y c.way)

      pub start_valid : {n : ℕ} → n ≡ node_of part p → (1 ≤ n) × (n ≤ 3)
      start_valid e = rw (e ∙ read_node_is p start_fits) (reached_valid img (bytes r) (checked r) r.some b lo hi s.i l p c.n c.y c.way)

    -- one level
    module _ {l w base p set : ℕ} (lv : l < 4) (c : LevelStart img b s.i l w base p) (es : set ≡ level_set img (depth b l) base w) where
      room_of : place_after set w p w ≤ 240
      room_of = rw es (level_room img r b lo hi s.i part read_node_is l w base p lv c)

      set-of : bits_after part set w p w ≡ level_set img (depth b (suc l)) (2 * base) (2 * w)
      set-of =
          let e : suc (depth b l) ≡ depth b (suc l) = omega arith in
          ap (λ (v : ℕ). bits_after part v w p w) es ∙ level_next img r b lo hi s.i part read_node_is l w base p lv c ∙ ap (λ (k : ℕ). level_set img k (2 * base) (2 * w)) e

      place_of : place_after set w p w + rank_in (prefixes_at img (depth b l)) base ≡ p + rank_in (prefixes_at img (depth b l)) (base + w)
      place_of = ap (λ (v : ℕ). place_after v w p w + rank_in (prefixes_at img (depth b l)) base) es ∙ (read_all img r b lo hi s.i part read_node_is l w base p lv c w (omega arith)).place_is

    root-set : 1 ≡ level_set img (depth b 0) (root_prefix img b spot.root.0) 1
    unfolding set_of as_bit
    root-set =
        let y = root_prefix img b spot.root.0 in
        let c = s.start₀ in
        let e : c.y ≡ y + 0 = omega (arith, c.lower, c.upper) in
        let k = reached_index img (bytes r) (checked r) r.some b lo hi s.i 0 spot.first c.n c.y c.way in
        let m : Memᴰ (y + 0) (prefixes_at img (depth b 0)) = mathlib.Core.List.Memᴰ.cast (sym e ∙ sym c.way.prefix) (mem_at (prefixes_at img (depth b 0)) c.n k) in
        rw (is_in-mem (y + 0) (prefixes_at img (depth b 0)) m)

    -- the root's node, and the place after it
    root-bits : bits_after part 1 1 spot.first 1 ≡ node_of part spot.first
    unfolding bits_after place_after
    root-bits = zero-add (node_of part spot.first)

    root_place : place_after 1 1 spot.first 1 ≡ spot.first + 1
    unfolding place_after
    root_place = refl

    module _ {one : ℕ} (e₁ : one ≡ node_of part spot.first) where
      one_is : one ≡ level_set img (depth b 1) (2 * root_prefix img b spot.root.0) 2
      one_is = e₁ ∙ sym root-bits ∙ set-of (omega arith) s.start₀ root-set

      pub room₁ : place_after one 2 spot.second 2 ≤ 240
      room₁ = room_of (omega arith) s.start₁ one_is

      module _ {two : ℕ} (e₂ : two ≡ bits_after part one 2 spot.second 2) where
        two_is : two ≡ level_set img (depth b 2) (2 * (2 * root_prefix img b spot.root.0)) 4
        two_is = e₂ ∙ set-of (omega arith) s.start₁ one_is

        pub room₂ : place_after two 4 spot.third 4 ≤ 240
        room₂ = room_of (omega arith) s.start₂ two_is

        module _ {four : ℕ} (e₃ : four ≡ bits_after part two 4 spot.third 4) where
          four_is : four ≡ level_set img (depth b 3) (2 * (2 * (2 * root_prefix img b spot.root.0))) 8
          four_is = e₃ ∙ set-of (omega arith) s.start₂ two_is

          pub room₃ : place_after four 8 spot.fourth 8 ≤ 240
          room₃ = room_of (omega arith) s.start₃ four_is

          pub set_is : {set : ℕ} → set ≡ bits_after part four 8 spot.fourth 8 → set ≡ level_set img (4 * b) (16 * root_prefix img b spot.root.0) 16
          set_is e₄ =
              let y = root_prefix img b spot.root.0 in
              let base : 2 * (2 * (2 * (2 * y))) ≡ 16 * y = omega arith in
              let d₄ : depth b 4 ≡ 4 * b = omega arith in
              e₄ ∙ set-of (omega arith) s.start₃ four_is ∙ ap₂ (λ (k z : ℕ). level_set img k z 16) d₄ base

-- ---- the spot's page

module _ {img : List ℕ} (r : Ready img) {b : ℕ} (lo : 1 ≤ b) (hi : b ≤ 8) {spot : Spot} (s : SpotAt img b spot) where
  page : Page
  page =
      record {
        band = b;
        index = s.i;
        number = page_number img b s.i;
        t = record { 0 = page_t img b s.i };
        b = record { 0 = page_b img b s.i };
        roots = page_roots img b s.i;
        nodes = page_nodes img b s.i;
        words = words_of img (64 * page_number img b s.i);
      }

  read : PageRead img page
  unfolding page
  read = record { from = lo; to = hi; in_band = s.in_band; number = refl; t = refl; b = refl; roots = refl; nodes = refl; words = refl }

  -- a root of it
  pub root_start : {n : ℕ} → page_t img b s.i ≤ n → n < page_t img b s.i + page_roots img b s.i → LevelStart img b s.i 0 1 (root_prefix img b n) (n - page_t img b s.i)
  unfolding page
  root_start from to = start₀ r read from to

-- ---- the next root of the page

module _ {img : List ℕ} (r : Ready img) {b : ℕ} (lo : 1 ≤ b) (hi : b ≤ 8) {spot : Spot} (s : SpotAt img b spot) (more : spot.root.0 + 1 < spot.end.0) where
  start_of : page_t img b s.i ≤ spot.root.0 + 1
  start_of = omega (arith, s.from)

  end_of : spot.root.0 + 1 < page_t img b s.i + page_roots img b s.i
  end_of = omega (arith, s.end_is)

  -- where the levels of its subtrie start, by the counts over words
  start : ℕ → ℕ
  start k = start_in (words_of img (64 * page_number img b s.i)).word (words_of img (64 * page_number img b s.i)).before (page_roots img b s.i) (spot.root.0 + 1 - page_t img b s.i) k

  next₀ : LevelStart img b s.i 0 1 (root_prefix img b (spot.root.0 + 1)) (start 0)
  unfolding start
  next₀ = root_start r lo hi s start_of end_of

  next₁ : LevelStart img b s.i 1 2 (2 * root_prefix img b (spot.root.0 + 1)) (start 1)
  unfolding page start
  next₁ = start₁ r (read r lo hi s) start_of end_of

  next₂ : LevelStart img b s.i 2 4 (2 * (2 * root_prefix img b (spot.root.0 + 1))) (start 2)
  unfolding page start
  next₂ = start₂ r (read r lo hi s) start_of end_of

  next₃ : LevelStart img b s.i 3 8 (2 * (2 * (2 * root_prefix img b (spot.root.0 + 1)))) (start 3)
  unfolding page start
  next₃ = start₃ r (read r lo hi s) start_of end_of

  -- its prefix is the next one
  within : spot.root.0 + 1 < length (prefixes_at img (4 * (b - 1)))
  unfolding page
  within =
      let e : depth b 0 ≡ 4 * (b - 1) = omega arith in
      omega (arith, reached_index img (bytes r) (checked r) r.some b lo hi s.i 0 _ (spot.root.0 + 1) _ (root_way r (read r lo hi s) start_of end_of), ap (λ (k : ℕ). length (prefixes_at img k)) e)

  above : root_prefix img b spot.root.0 + 1 ≤ root_prefix img b (spot.root.0 + 1)
  above = let h = asc_lt (prefixes_at img (4 * (b - 1))) spot.root.0 (spot.root.0 + 1) (prefixes_asc img (bytes r) (checked r) r.some (4 * (b - 1))) (omega arith) within in omega arith

  gap₀ : Gap img (depth b 0) 1 (root_prefix img b spot.root.0) (root_prefix img b (spot.root.0 + 1))
  gap₀ = let e : 4 * (b - 1) ≡ depth b 0 = omega arith in subst (λ (k : ℕ). Gap img k 1 (root_prefix img b spot.root.0) (root_prefix img b (spot.root.0 + 1))) e (gap_first img r (4 * (b - 1)) spot.root.0 within)

  gap_below : (l w base base' : ℕ) → l < 4 → Gap img (depth b l) w base base' → Gap img (depth b (suc l)) (2 * w) (2 * base) (2 * base')
  gap_below l w base base' h g = let e : suc (depth b l) ≡ depth b (suc l) = omega arith in subst (λ (k : ℕ). Gap img k (2 * w) (2 * base) (2 * base')) e (gap_next img r (depth b l) w base base' (omega arith) g)

  gap₁ : Gap img (depth b 1) 2 (2 * root_prefix img b spot.root.0) (2 * root_prefix img b (spot.root.0 + 1))
  gap₁ = gap_below 0 1 _ _ (omega arith) gap₀

  gap₂ : Gap img (depth b 2) 4 (2 * (2 * root_prefix img b spot.root.0)) (2 * (2 * root_prefix img b (spot.root.0 + 1)))
  gap₂ = gap_below 1 2 _ _ (omega arith) gap₁

  gap₃ : Gap img (depth b 3) 8 (2 * (2 * (2 * root_prefix img b spot.root.0))) (2 * (2 * (2 * root_prefix img b (spot.root.0 + 1))))
  gap₃ = gap_below 2 4 _ _ (omega arith) gap₂

  gap₄ : Gap img (depth b 4) 16 (2 * (2 * (2 * (2 * root_prefix img b spot.root.0)))) (2 * (2 * (2 * (2 * root_prefix img b (spot.root.0 + 1)))))
  gap₄ = gap_below 3 8 _ _ (omega arith) gap₃

  -- a level is read up to where the next subtrie's starts
  reaches : {l w base base' p p' q : ℕ} → LevelStart img b s.i l w base p → LevelStart img b s.i l w base' p' → base + w ≤ base' → Gap img (depth b l) w base base'
      → q + rank_in (prefixes_at img (depth b l)) base ≡ p + rank_in (prefixes_at img (depth b l)) (base + w) → LevelStart img b s.i l w base' q
  reaches {l} {w} {base} {base'} {p} {p'} {q} c c' h g e =
      let shift = start_shift img r b lo hi s.i l w base p base' p' c c' in
      let same = gap_rank img r (depth b l) w base base' h g in
      let at : p' ≡ q = omega arith in
      subst (LevelStart img b s.i l w base') at c'

  -- and the out-links of the subtrie are as many as its set has bits
  link-next : {set m : ℕ} → set ≡ level_set img (4 * b) (16 * root_prefix img b spot.root.0) 16 → m ≡ ones set → spot.link.0 + m ≡ rank_in (prefixes_at img (4 * b)) (16 * root_prefix img b (spot.root.0 + 1))
  link-next {set} {m} es em =
      let y = root_prefix img b spot.root.0 in
      let y' = root_prefix img b (spot.root.0 + 1) in
      let P = prefixes_at img (4 * b) in
      let d₄ : depth b 4 ≡ 4 * b = omega arith in
      let g = subst (λ (k : ℕ). Gap img k 16 (2 * (2 * (2 * (2 * y)))) (2 * (2 * (2 * (2 * y'))))) d₄ gap₄ in
      let same : rank_in P (2 * (2 * (2 * (2 * y))) + 16) ≡ rank_in P (2 * (2 * (2 * (2 * y')))) = gap_rank img r (4 * b) 16 (2 * (2 * (2 * (2 * y)))) (2 * (2 * (2 * (2 * y')))) (omega (arith, above)) g in
      let u : 16 * y + 16 ≡ 2 * (2 * (2 * (2 * y))) + 16 = omega arith in
      let u' : 2 * (2 * (2 * (2 * y'))) ≡ 16 * y' = omega arith in
      let run : rank_in P (16 * y + 16) ≡ rank_in P (16 * y) + ones (level_set img (4 * b) (16 * y) 16) = rank_run P (16 * y) 16 (prefixes_asc img (bytes r) (checked r) r.some (4 * b)) in
      omega (arith, s.link_is, ap ones es, ap (rank_in P) u, ap (rank_in P) u')

-- ---- a step

module _ {img : List ℕ} (r : Ready img) {b : ℕ} (lo : 1 ≤ b) (hi : b ≤ 8) {spot : Spot} (s : SpotAt img b spot) {part : List ℕ} (ep : part ≡ take 64 (drop spot.at img))
    {one two four set : ℕ} (e₁ : one ≡ node_of part spot.first) (e₂ : two ≡ bits_after part one 2 spot.second 2) (e₃ : four ≡ bits_after part two 4 spot.third 4)
    (e₄ : set ≡ bits_after part four 8 spot.fourth 8) where
  -- the subtrie read
  pub subtrie_read : SubtrieRead img b (root_prefix img b spot.root.0) set spot.link.0
  subtrie_read = record { set_is = set_is r lo hi s ep e₁ e₂ e₃ e₄; link_is = s.link_is }

  -- the spot after it
  pub next_spot : {next : Spot} → next.root.0 ≡ spot.root.0 + 1 → next.end.0 ≡ spot.end.0 → next.at ≡ spot.at → next.first ≡ spot.first + 1 → next.second ≡ place_after one 2 spot.second 2
      → next.third ≡ place_after two 4 spot.third 4 → next.fourth ≡ place_after four 8 spot.fourth 8 → {m : ℕ} → m ≡ ones set → next.link.0 ≡ spot.link.0 + m → next.root.0 < next.end.0 → SpotAt img b next
  next_spot {next} er en ea p₀ p₁ p₂ p₃ {m} em el lt =
      let more : spot.root.0 + 1 < spot.end.0 = omega (arith, er, en) in
      let up = above r lo hi s more in
      record {
        i = s.i;
        in_band = s.in_band;
        from = omega (arith, er, s.from);
        to = lt;
        end_is = en ∙ s.end_is;
        at_is = ea ∙ s.at_is;
        start₀ = rw (er, p₀, ← root_place r lo hi s ep) (reaches r lo hi s more s.start₀ (next₀ r lo hi s more) (omega arith) (gap₀ r lo hi s more) (place_of r lo hi s ep (omega arith) s.start₀ (root-set r lo hi s ep)));
        start₁ = rw (er, p₁) (reaches r lo hi s more s.start₁ (next₁ r lo hi s more) (omega arith) (gap₁ r lo hi s more) (place_of r lo hi s ep (omega arith) s.start₁ (one_is r lo hi s ep e₁)));
        start₂ = rw (er, p₂) (reaches r lo hi s more s.start₂ (next₂ r lo hi s more) (omega arith) (gap₂ r lo hi s more) (place_of r lo hi s ep (omega arith) s.start₂ (two_is r lo hi s ep e₁ e₂)));
        start₃ = rw (er, p₃) (reaches r lo hi s more s.start₃ (next₃ r lo hi s more) (omega arith) (gap₃ r lo hi s more) (place_of r lo hi s ep (omega arith) s.start₃ (four_is r lo hi s ep e₁ e₂ e₃)));
        link_is = rw er (el ∙ link-next r lo hi s more (set_is r lo hi s ep e₁ e₂ e₃ e₄) em);
      }

-- ---- the spot of a root, from its page

pub spot_made : {img : List ℕ} (r : Ready img) {page : Page} (d : PageRead img page) {n : ℕ} (from : page.t.0 ≤ n) (to : n < page.t.0 + page.roots) {second third fourth past : ℕ}
    → StartsRight page.words.word page.words.before page.roots (n - page.t.0) second third fourth past → {b : ℕ} → page.band ≡ b → {spot : Spot} → spot.root.0 ≡ n → spot.end.0 ≡ page.t.0 + page.roots
    → spot.at ≡ 64 * page.number → spot.first ≡ n - page.t.0 → spot.second ≡ second → spot.third ≡ third → spot.fourth ≡ fourth → spot.link.0 ≡ page.b.0 + (past - page.nodes) → SpotAt img b spot
spot_made {img} r {page} d {n} from to {second} {third} {fourth} {past} st {b} eb {spot} er en ea p₀ p₁ p₂ p₃ el =
    subst (λ (k : ℕ). SpotAt img k spot) eb
    (record {
      i = page.index;
      in_band = d.in_band;
      from = omega (arith, d.t);
      to = omega arith;
      end_is = en ∙ ap₂ ◌+◌ d.t d.roots;
      at_is = ea ∙ ap (64 *◌) d.number;
      start₀ = rw (er, p₀) (start₀ r d from to);
      start₁ = rw (er, p₁ ∙ st.second_is) (start₁ r d from to);
      start₂ = rw (er, p₂ ∙ st.third_is) (start₂ r d from to);
      start₃ = rw (er, p₃ ∙ st.fourth_is) (start₃ r d from to);
      link_is = rw er (el ∙ (link_is r d from to st.past_is).1);
    })
