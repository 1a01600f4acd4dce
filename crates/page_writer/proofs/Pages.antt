-- A page filled in level by level, from the fourth to the first.
-- Assumes nothing.
use mathlib.Core.Path.{◌≡◌, refl, sym, ap, ap₂, ◌∙◌}
use mathlib.Core.List.{List, [], ◌∷◌, ◌++◌, append_assoc, append-nil, flat_map, flatten}
use Prim.Native.Nat.{ℕ, zero, suc, ◌+◌, ◌-◌, ◌≤◌}
use native.Mathlib.Omega.{arith}
use lib.ListN.{length, get_or, take, drop, replicate, length-append, length-drop, length-replicate}
use lib.Seq.{take_at, drop_at, length-take-le}
use Rattle.format.specs.Seq.{All}
use Rattle.format.specs.Trie.{parents, nodes_over, levels_over}
use Rattle.format.specs.Page.{node_bytes, node_count, pairs_of}
use Rattle.format.proofs.Lists.{all_append}
use Rattle.format.proofs.Trie.{Asc}
use Rattle.format.proofs.Bytes.{length-flatten, length-node_bytes}
use Rattle.format.proofs.Members.{of_ascending, ascending_of}
use Rattle.format.proofs.RunHeads.{heads}
use Rattle.format.proofs.Runs.{parents_heads}
use Rattle.page_writer.specs.declared.Level.{Level}
use Rattle.packing.specs.Run.{band_above, roots_above}
use Rattle.page_writer.specs.Page.{nodes_of, with_nodes, LevelRoom, LevelDone, LevelsRoom, LevelsDone, MemoryAfter}
use Rattle.packing.proofs.Runs.{Run, rest_run}
use Rattle.packing.proofs.Bands.{shape, roots_are, heads_listed, heads_few}
use Rattle.page_writer.proofs.Nodes.{nodes_back}
use Rattle.page_writer.proofs.Filling.{length_with, with_own}
use Rattle.page_writer.proofs.Levels.{nodes_few, zeros_small, less_kept}

-- ---- nodes of a page with other nodes

module _ (page nodes : List ℕ) (room : 64 ≤ length page) where
  pub nodes_with : length nodes ≡ 240 → All (λ n. n ≤ 3) nodes → nodes_of (with_nodes page nodes) ≡ nodes
  unfolding nodes_of with_nodes
  nodes_with e a =
      let n : length (take 4 page) ≡ 4 = length-take-le 4 page (omega arith) in
      ap (λ (l : List ℕ). flat_map pairs_of (take 60 l)) (drop_at (take 4 page) (node_bytes 60 nodes ++ drop 64 page) 4 n)
      ∙ ap (flat_map pairs_of) (take_at (node_bytes 60 nodes) (drop 64 page) 60 (length-node_bytes 60 nodes))
      ∙ nodes_back 60 nodes e a

  -- other nodes again
  with-with : (others : List ℕ) → with_nodes (with_nodes page nodes) others ≡ with_nodes page others
  unfolding with_nodes
  with-with others =
      let n : length (take 4 page) ≡ 4 = length-take-le 4 page (omega arith) in
      let rest : drop 64 (take 4 page ++ (node_bytes 60 nodes ++ drop 64 page)) ≡ drop 64 page =
      ap (λ (l : List ℕ). drop 64 l) (sym (append_assoc (take 4 page) (node_bytes 60 nodes) (drop 64 page)))
      ∙ drop_at (take 4 page ++ node_bytes 60 nodes) (drop 64 page) 64 (omega (arith, length-append (take 4 page) (node_bytes 60 nodes), length-node_bytes 60 nodes)) in
      ap₂ (λ (a b : List ℕ). a ++ (node_bytes 60 others ++ b)) (take_at (take 4 page) (node_bytes 60 nodes ++ drop 64 page) 4 n) rest

-- ---- levels one after the other

-- the last nodes of a page are done, and n before them are 00
pub record Stage (page₀ page done : List ℕ) (n : ℕ) : Type 0 where
  pub room : 64 ≤ length page₀
  pub is : page ≡ with_nodes page₀ (replicate n 0 ++ done)
  pub whole : n + length done ≡ 240
  pub small : All (λ m. m ≤ 3) done

stage_length : (page₀ page done : List ℕ) (n : ℕ) → Stage page₀ page done n → length page ≡ length page₀
stage_length page₀ page done n s = ap length s.is ∙ length_with page₀ (replicate n 0 ++ done) s.room

stage_nodes : (page₀ page done : List ℕ) (n : ℕ) → Stage page₀ page done n → nodes_of page ≡ replicate n 0 ++ done
stage_nodes page₀ page done n s =
    ap nodes_of s.is
    ∙ nodes_with page₀ (replicate n 0 ++ done) s.room (omega (arith, length-append (replicate n 0) done, length-replicate {A = ℕ} n 0, s.whole)) (all_append (λ m. m ≤ 3) (replicate n 0) done (zeros_small n) s.small)

module _ (page₀ page done : List ℕ) (n : ℕ) (s : Stage page₀ page done n) (keys p : List ℕ) (from : ℕ) (is : drop from keys ≡ p) where
  pub stage_room : Asc p → 1 ≤ length p → length (nodes_over p) ≤ n → LevelRoom page keys from n
  stage_room a some fits =
      record {
        some = omega (arith, length-drop from keys, ap length is);
        ordered = rw is (ascending_of p a);
        room = omega (arith, stage_length page₀ page done n s, s.room);
        within = omega (arith, s.whole);
        fits = rw is fits;
        empty = ap (take n) (stage_nodes page₀ page done n s) ∙ take_at (replicate n 0) done n (length-replicate {A = ℕ} n 0);
        small = rw (stage_nodes page₀ page done n s, drop_at (replicate n 0) done n (length-replicate {A = ℕ} n 0)) s.small;
      }

  pub stage_next : (page' keys' : List ℕ) (level : Level) → Asc p → LevelDone page keys from n page' keys' level → Stage page₀ page' (nodes_over p ++ done) level.node
  stage_next page' keys' level a d =
      let nodes = replicate level.node 0 ++ (nodes_over p ++ done) in
      let kept : drop n (nodes_of page) ≡ done = ap (drop n) (stage_nodes page₀ page done n s) ∙ drop_at (replicate n 0) done n (length-replicate {A = ℕ} n 0) in
      record {
        room = s.room;
        is = d.bytes
            ∙ ap₂ (λ (k l : List ℕ). with_nodes page (replicate level.node 0 ++ (nodes_over k ++ l))) is kept
            ∙ ap (λ (l : List ℕ). with_nodes l nodes) s.is
            ∙ with-with page₀ (replicate n 0 ++ done) s.room nodes;
        whole = omega (arith, d.place, s.whole, length-append (nodes_over p) done, ap (λ (l : List ℕ). length (nodes_over l)) is);
        small = all_append (λ m. m ≤ 3) (nodes_over p) done (nodes_few p a) s.small;
      }

-- ---- the four levels of a band

-- the nodes of k levels from the one above the prefixes without their last j bits upwards
abbrev upwards : List ℕ → ℕ → ℕ → ℕ
upwards q zero j = 0
upwards q (suc k) j = length (nodes_over (heads j q)) + upwards q k (suc j)

-- the j last levels, and the nodes that are 00 after them
abbrev last_levels : List ℕ → ℕ → ℕ → List ℕ
last_levels q count zero = replicate (240 - count) 0
last_levels q count (suc j) = nodes_over (heads j q) ++ last_levels q count j

-- j levels are done, and k are left
pub record Reached (page₀ q : List ℕ) (count k j : ℕ) (page keys : List ℕ) (from n : ℕ) : Type 0 where
  pub first : ℕ
  pub last : ℕ
  pub run : Run first last q
  pub stage : Stage page₀ page (last_levels q count j) n
  pub memory : MemoryAfter q keys
  pub lifted : drop from keys ≡ heads j q
  pub left : n ≡ upwards q k j

module _ (page₀ q : List ℕ) (count k j : ℕ) (page keys : List ℕ) (from n : ℕ) (r : Reached page₀ q count (suc k) j page keys from n) where
  pub reached_room : LevelRoom page keys from n
  reached_room =
      let l = heads_listed j _ _ q r.run in
      stage_room page₀ page (last_levels q count j) n r.stage keys (heads j q) from r.lifted l.asc l.some (omega (arith, r.left))

  pub reached_next : (page' keys' : List ℕ) (level : Level) → LevelDone page keys from n page' keys' level → Reached page₀ q count k (suc j) page' keys' level.first level.node
  unfolding heads
  reached_next page' keys' level d =
      let l = heads_listed j _ _ q r.run in
      let e = ap (λ (p : List ℕ). length (nodes_over p)) r.lifted in
      let up : parents (drop from keys) ≡ heads (suc j) q = ap parents r.lifted ∙ parents_heads j q in
      let size : length (parents (drop from keys)) ≡ length (heads (suc j) q) = ap length up in
      record {
        first = r.first;
        last = r.last;
        run = r.run;
        stage = stage_next page₀ page (last_levels q count j) n r.stage keys (heads j q) from r.lifted page' keys' level l.asc d;
        memory = record {
          free = omega (arith, d.first_is, size, (heads_listed (suc j) _ _ q r.run).some, length-drop level.first keys', ap length d.lifted, r.memory.free);
          kept = less_kept keys' keys level.first (length q - length (parents q)) (omega (arith, d.first_is, size, heads_few j (parents q), r.memory.free)) d.kept ∙ r.memory.kept;
        };
        lifted = d.lifted ∙ up;
        left = omega (arith, d.place, r.left, e);
      }

pub four_levels_lem : (q : List ℕ) → band_above q ≡ nodes_over (heads 3 q) ∷ nodes_over (heads 2 q) ∷ nodes_over (heads 1 q) ∷ nodes_over (heads 0 q) ∷ []
unfolding band_above levels_over heads
four_levels_lem q = refl

pub flat : (a b c d : List ℕ) → length (flatten (a ∷ b ∷ c ∷ d ∷ [])) ≡ length a + (length b + (length c + (length d + 0)))
unfolding flatten
flat a b c d = omega (arith, length-append a (b ++ (c ++ (d ++ []))), length-append b (c ++ (d ++ [])), length-append c (d ++ []), length-append d [])

module _ (page q : List ℕ) (count : ℕ) (g : LevelsRoom page q count) where
  first_run : Run (get_or q 0 0) (get_or q (length q - 1) 0) q
  first_run = rest_run q 0 (of_ascending q g.ordered) g.some

  counted-levels : count ≡ upwards q 4 0
  counted-levels =
      let s = shape _ _ q first_run in
      let e = length-flatten (length (heads 4 q)) (band_above q) s in
      let f : length (flatten (band_above q)) ≡ length (nodes_over (heads 3 q)) + (length (nodes_over (heads 2 q)) + (length (nodes_over (heads 1 q)) + (length (nodes_over (heads 0 q)) + 0))) = ap (λ (b : List (List ℕ)). length (flatten b)) (four_levels_lem q) ∙ flat (nodes_over (heads 3 q)) (nodes_over (heads 2 q)) (nodes_over (heads 1 q)) (nodes_over (heads 0 q)) in
      let c : count ≡ node_count (length (heads 4 q)) (band_above q) = g.counted ∙ ap (λ (r : ℕ). node_count r (band_above q)) (roots_are _ _ q first_run) in
      omega (arith, e, f, c)

  pub reached_start : Reached page q count 4 0 page q 0 count
  unfolding heads
  reached_start =
      record {
        first = get_or q 0 0;
        last = get_or q (length q - 1) 0;
        run = first_run;
        stage = record {
          room = g.room;
          is = sym (with_own page g.room) ∙ ap (with_nodes page) (g.empty ∙ split count (240 - count) 240 (omega (arith, g.fits)));
          whole = omega (arith, length-replicate {A = ℕ} (240 - count) 0, g.fits);
          small = zeros_small (240 - count);
        };
        memory = record { free = refl; kept = refl };
        lifted = refl;
        left = counted-levels;
      }
    where
      split : (a b n : ℕ) → n ≡ a + b → replicate {A = ℕ} n 0 ≡ replicate a 0 ++ replicate b 0
      split zero b n e = let z : n ≡ b = omega arith in ap (λ (k : ℕ). replicate {A = ℕ} k 0) z
      split (suc a) b zero e = absurd (omega arith)
      split (suc a) b (suc n) e = ap (0 ∷◌) (split a b n (omega arith))

  -- after the fourth level, the third and the second
  module _ (page₁ keys₁ : List ℕ) (l₁ : Level) (d₁ : LevelDone page q 0 count page₁ keys₁ l₁) where
    pub fourth_reached : Reached page q count 3 1 page₁ keys₁ l₁.first l₁.node
    fourth_reached = reached_next page q count 3 0 page q 0 count reached_start page₁ keys₁ l₁ d₁

    module _ (page₂ keys₂ : List ℕ) (l₂ : Level) (d₂ : LevelDone page₁ keys₁ l₁.first l₁.node page₂ keys₂ l₂) where
      pub third_reached : Reached page q count 2 2 page₂ keys₂ l₂.first l₂.node
      third_reached = reached_next page q count 2 1 page₁ keys₁ l₁.first l₁.node fourth_reached page₂ keys₂ l₂ d₂

      pub second_reached : (page₃ keys₃ : List ℕ) (l₃ : Level) → LevelDone page₂ keys₂ l₂.first l₂.node page₃ keys₃ l₃ → Reached page q count 1 3 page₃ keys₃ l₃.first l₃.node
      second_reached page₃ keys₃ l₃ d₃ = reached_next page q count 1 2 page₂ keys₂ l₂.first l₂.node third_reached page₃ keys₃ l₃ d₃

  pub reached_end : (page₁ keys₁ page' keys' : List ℕ) (fourth level : Level) → LevelDone page q 0 count page₁ keys₁ fourth → Reached page q count 0 4 page' keys' level.first level.node
      → LevelsDone page q count page' keys' (record { first = level.first; node = fourth.node })
  unfolding flatten roots_above heads
  reached_end page₁ keys₁ page' keys' fourth level d r =
      let none_left : replicate {A = ℕ} level.node 0 ≡ [] = ap (λ (n : ℕ). replicate {A = ℕ} n 0) r.left in
      record {
        bytes = r.stage.is
            ∙ ap (λ (l : List ℕ). with_nodes page (l ++ last_levels q count 4)) none_left
            ∙ ap (with_nodes page) (joined (nodes_over (heads 3 q)) (nodes_over (heads 2 q)) (nodes_over (heads 1 q)) (nodes_over (heads 0 q)) (replicate (240 - count) 0) ∙ ap (λ (b : List (List ℕ)). flatten b ++ replicate (240 - count) 0) (sym (four_levels_lem q)));
        place = d.place;
        memory = r.memory;
        lifted = r.lifted;
      }
    where
      joined : (a b c d z : List ℕ) → a ++ (b ++ (c ++ (d ++ z))) ≡ (a ++ (b ++ (c ++ (d ++ [])))) ++ z
      joined a b c d z = simp (append_assoc, append-nil)
