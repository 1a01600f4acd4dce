-- A filled page: its bytes, and the T and B of the next.
-- Assumes nothing.
use mathlib.Core.Path.{◌≡◌, refl, sym, ap, ◌∙◌}
use mathlib.Core.List.{List, [], ◌∷◌, ◌++◌, append_assoc, append-nil, flat_map, flatten}
use Prim.Native.Nat.{ℕ, zero, suc, ◌+◌, ◌-◌, ◌≤◌}
use native.Mathlib.Omega.{arith}
use lib.ListN.{length, get_or, take, drop, replicate, length-append, length-drop, length-replicate}
use lib.Seq.{drop_at, drop-drop}
use Rattle.format.specs.Seq.{All}
use Rattle.format.specs.Trie.{nodes_over, on_bits, bits}
use Rattle.format.specs.Page.{Byte, node_bytes, node_count, pairs_at, pairs_of, two_bytes}
use Rattle.format.specs.Writer.{page_bytes, roots_in}
use Rattle.format.proofs.Lists.{all_append}
use Rattle.format.proofs.Bytes.{length-flatten, length-node_bytes, nodes_flatten, nodes_small, bytes_back, zeros_all}
use Rattle.format.proofs.Members.{of_ascending}
use Rattle.format.proofs.RunHeads.{heads}
use Rattle.format.proofs.Subtries.{on_bits-append, on_bits-split}
use Rattle.nodes.specs.declared.Words.{Words}
use Rattle.nodes.specs.Words.{words_of, ones_before}
use Rattle.nodes.proofs.Calls.{counted, all_counted}
use Rattle.page_writer.specs.declared.Head.{Head}
use Rattle.page_writer.specs.declared.Level.{Level}
use Rattle.packing.specs.Run.{band_above, roots_above}
use Rattle.page_writer.specs.Page.{nodes_of, with_nodes, LevelsRoom, LevelsDone, PageRoom, PageDone}
use Rattle.packing.proofs.Runs.{Run, rest_run}
use Rattle.packing.proofs.Bands.{shape, roots_are, roots_is, heads_listed}
use Rattle.page_writer.proofs.Nodes.{nodes_back}
use Rattle.page_writer.proofs.Filling.{length_with}
use Rattle.page_writer.proofs.Levels.{zeros_small}
use Rattle.page_writer.proofs.Pages.{nodes_with, four_levels_lem, flat}

-- ---- T, B and no nodes

-- the first bytes of a page, and what stands after it
pub page_begun : (page p₁ p₂ p₃ : List ℕ) (t b : ℕ) → p₁ ≡ take 0 page ++ (two_bytes t ++ drop 2 page) → p₂ ≡ take 2 p₁ ++ (two_bytes b ++ drop 4 p₁) → p₃ ≡ take 4 p₂ ++ (replicate 60 0 ++ drop 64 p₂)
    → p₃ ≡ two_bytes t ++ (two_bytes b ++ (replicate 60 0 ++ drop 64 page))
unfolding two_bytes
page_begun page p₁ p₂ p₃ t b e₁ e₂ e₃ =
    let f₂ : p₂ ≡ two_bytes t ++ (two_bytes b ++ drop 4 page) = e₂ ∙ ap (λ (p : List ℕ). take 2 p ++ (two_bytes b ++ drop 4 p)) e₁ ∙ ap (λ (l : List ℕ). two_bytes t ++ (two_bytes b ++ l)) (drop-drop 2 2 page) in
    e₃ ∙ ap (λ (p : List ℕ). take 4 p ++ (replicate 60 0 ++ drop 64 p)) f₂ ∙ ap (λ (l : List ℕ). two_bytes t ++ (two_bytes b ++ (replicate 60 0 ++ l))) (drop-drop 60 4 page)

no_ones : (n : ℕ) → on_bits (replicate n 0) ≡ 0
unfolding on_bits bits
no_ones zero = refl
no_ones (suc n) = omega (arith, no_ones n)

-- ---- the page

module _ (page q : List ℕ) (count : ℕ) (head : Head) (g : PageRoom page q count head) (p₁ : List ℕ)
    (begun : p₁ ≡ two_bytes head.t.0 ++ (two_bytes head.b.0 ++ (replicate 60 0 ++ drop 64 page))) where
  no_nodes : nodes_of p₁ ≡ replicate 240 0
  unfolding nodes_of two_bytes pairs_of flat_map
  no_nodes = ap (λ (p : List ℕ). pairs_at p 0) begun

  begun-room : 64 ≤ length p₁
  unfolding two_bytes
  begun-room = omega (arith, ap length begun)

  pub levels_room : LevelsRoom p₁ q count
  levels_room = record { some = g.some; ordered = g.ordered; room = begun-room; counted = g.counted; fits = g.fits; empty = no_nodes }

  run : Run (get_or q 0 0) (get_or q (length q - 1) 0) q
  run = rest_run q 0 (of_ascending q g.ordered) g.some

  module _ (p₂ q₂ : List ℕ) (level : Level) (d : LevelsDone p₁ q count p₂ q₂ level) where
    roots-length : length (roots_above q) ≡ roots_in (band_above q)
    roots-length = ap length (roots_is q) ∙ sym (roots_are _ _ q run)

    pub first_within : level.first ≤ length q₂
    first_within = omega (arith, (heads_listed 4 _ _ q run).some, ap length (roots_is q), ap length d.lifted, length-drop level.first q₂)

    roots-found : length q₂ - level.first ≡ roots_in (band_above q)
    roots-found = omega (arith, roots-length, ap length d.lifted, length-drop level.first q₂)

    flat-length : length (flatten (band_above q)) ≡ count
    flat-length = length-flatten (length (heads 4 q)) (band_above q) (shape _ _ q run) ∙ ap (λ (r : ℕ). node_count r (band_above q)) (sym (roots_are _ _ q run)) ∙ sym g.counted

    cells : List ℕ
    cells = flatten (band_above q) ++ replicate (240 - count) 0

    cells-length : length cells ≡ 240
    unfolding cells
    cells-length = omega (arith, length-append (flatten (band_above q)) (replicate (240 - count) 0), flat-length, length-replicate {A = ℕ} (240 - count) 0, g.fits)

    cells-small : All (λ n. n ≤ 3) cells
    unfolding cells
    cells-small = all_append (λ n. n ≤ 3) (flatten (band_above q)) (replicate (240 - count) 0) (nodes_small (flatten (band_above q)) (nodes_flatten (length (heads 4 q)) (band_above q) (shape _ _ q run))) (zeros_small (240 - count))

    found : nodes_of p₂ ≡ cells
    unfolding cells
    found = ap nodes_of d.bytes ∙ nodes_with p₁ cells begun-room cells-length cells-small

    filled-length : length p₂ ≡ length p₁
    unfolding cells
    filled-length = ap length d.bytes ∙ length_with p₁ cells begun-room

    -- from its first node on there is the fourth level, and then nodes that are 00
    fourth : drop level.node cells ≡ nodes_over (heads 0 q) ++ replicate (240 - count) 0
    unfolding cells flatten heads
    fourth = go (nodes_over (heads 3 q)) (nodes_over (heads 2 q)) (nodes_over (heads 1 q)) (nodes_over (heads 0 q)) (four_levels_lem q) refl
      where
        go : (a b c e : List ℕ) → band_above q ≡ a ∷ b ∷ c ∷ e ∷ [] → length e ≡ length (nodes_over q) → drop level.node (flatten (band_above q) ++ replicate (240 - count) 0) ≡ e ++ replicate (240 - count) 0
        go a b c e is size =
            let z : List ℕ = replicate (240 - count) 0 in
            let all : flatten (band_above q) ++ z ≡ (a ++ (b ++ c)) ++ (e ++ z) = ap (λ (v : List (List ℕ)). flatten v ++ z) is ∙ simp (append_assoc, append-nil) in
            let n : length (flatten (band_above q)) ≡ length a + (length b + (length c + (length e + 0))) = ap (λ (v : List (List ℕ)). length (flatten v)) is ∙ flat a b c e in
            let u : length (a ++ (b ++ c)) ≡ level.node = omega (arith, length-append a (b ++ c), length-append b c, n, flat-length, d.place) in
            ap (drop level.node) all ∙ drop_at (a ++ (b ++ c)) (e ++ z) level.node u

    -- nodes that are 00 after the last do not change the bytes
    no_more : node_bytes 60 cells ≡ node_bytes 60 (flatten (band_above q))
    unfolding cells
    no_more =
        let e = bytes_back (node_bytes 60 cells) (flatten (band_above q)) (replicate (240 - count) 0) (nodes_back 60 cells cells-length cells-small) (zeros_all (240 - count)) in
        sym (ap (λ (n : ℕ). node_bytes n (flatten (band_above q))) (sym (length-node_bytes 60 cells)) ∙ e)

    filled-bytes : p₂ ≡ page_bytes head.t.0 head.b.0 (band_above q) ++ drop 64 page
    unfolding with_nodes page_bytes two_bytes cells
    filled-bytes =
        d.bytes
        ∙ ap (λ (p : List ℕ). take 4 p ++ (node_bytes 60 cells ++ drop 64 p)) begun
        ∙ ap (λ (l : List ℕ). two_bytes head.t.0 ++ (two_bytes head.b.0 ++ (l ++ drop 64 page))) no_more

    -- the on bits of all nodes are those before the fourth level and its own, the out-links
    module _ (small : All Byte p₂) (words : Words) (gathered : words ≡ words_of p₂ 0) (all before : ℕ) (is_all : all ≡ get_or words.before 8 0) (is-before : before ≡ ones_before words.word words.before level.node) where
      pub links_more : before + on_bits (get_or (band_above q) 3 []) ≡ all
      unfolding nodes_of
      links_more =
          let room : 0 + 64 ≤ length p₂ = omega (arith, filled-length, begun-room) in
          let a : all ≡ on_bits cells = is_all ∙ all_counted p₂ small 0 room words gathered ∙ ap on_bits found in
          let b : before ≡ on_bits (take level.node cells) = is-before ∙ counted p₂ small 0 room words gathered level.node (omega (arith, d.place, g.fits)) ∙ ap (λ (l : List ℕ). on_bits (take level.node l)) found in
          let l : on_bits (drop level.node cells) ≡ on_bits (get_or (band_above q) 3 []) + on_bits (replicate (240 - count) 0) =
          ap on_bits fourth ∙ on_bits-append (nodes_over (heads 0 q)) (replicate (240 - count) 0) ∙ ap (λ (v : List (List ℕ)). on_bits (get_or v 3 []) + on_bits (replicate (240 - count) 0)) (sym (four_levels_lem q)) in
          omega (arith, a, b, l, no_ones (240 - count), on_bits-split level.node cells)

      pub page_done : PageDone page q head p₂ q₂ (record { t = record { 0 = head.t.0 + (length q₂ - level.first) }; b = record { 0 = head.b.0 + (all - before) } })
      page_done =
          let first : length q - roots_in (band_above q) ≡ level.first = omega (arith, roots-found, d.memory.free, first_within) in
          let links : all - before ≡ on_bits (get_or (band_above q) 3 []) = omega (arith, links_more) in
          record {
            bytes = filled-bytes;
            t_next = ap (head.t.0 +◌) roots-found;
            b_next = ap (head.b.0 +◌) links;
            memory = d.memory;
            lifted = ap (λ (n : ℕ). drop n q₂) first ∙ d.lifted;
          }
