-- The nodes of a subtrie, level by level: those of one level stand one after the other in the page, in the order of their prefixes.
-- Assumes nothing.
use mathlib.Core.Bool.{Bool, true, false}
use mathlib.Core.List.Memᴰ
use mathlib.Core.List.{List, Memᴰ}
use mathlib.Core.Path.{◌≡◌, refl, sym, ap, subst, ◌∙◌}
use Prim.Native.Nat.{ℕ, zero, suc, ◌+◌, ◌*◌, ◌/◌, ◌%◌, ◌≤◌, ◌<◌}
use native.Mathlib.Decide.{dec_lt, ℕ_discrete}
use native.Mathlib.Omega.{arith}
use lib.ListN.{get_or}
use Rattle.format.specs.Seq.{is_in, rank_in}
use Rattle.format.specs.Image.{page_nodes, page_pairs, prefixes_at, depth}
use Rattle.format.specs.Trie.{bit, child_at}
use Rattle.format.specs.Place.{Reached}
use Rattle.format.proofs.Descent.{child_of_mem, mem_at}
use Rattle.format.proofs.Levels.{level_at, child_place, prefixes_asc, prefixes_next, level_valid, next_prefix, next_within}
use Rattle.format.proofs.Walk.{Out, out_link, prefix_rank, reached_node, reached_index, reached_valid, reached_off, reached_child, reached_out}
use Rattle.pages.specs.Page.{Ready}
use Rattle.subtries.specs.Spot.{ReachedTo, LevelStart}
use Rattle.subtries.specs.Subtrie.{as_bit}
use Rattle.pages.proofs.Pages.{bytes, checked}
use Rattle.subtries.proofs.Ranks.{Tested, member, stranger, tested, rank_first}

-- the first on bit of a node
pub record FirstBit (v : ℕ) : Type 0 where
  pub t : ℕ
  pub small : t ≤ 1
  pub on : 1 ≤ bit t v
  pub off : t ≡ 1 → v / 2 ≡ 0

pub first_bit : (v : ℕ) → 1 ≤ v → v ≤ 3 → FirstBit v
first_bit v lo hi =
    elim (dec_lt v 2) [
      | yes h ↦ record { t = 1; small = omega arith; on = omega arith; off = λ e. omega arith }
      | no h ↦ record { t = 0; small = omega arith; on = omega arith; off = λ e. absurd (omega arith) }
    ]

module _ (img : List ℕ) (r : Ready img) where
  -- a prefix without its last bit
  pub parent_mem : (d z : ℕ) → d < 32 → Memᴰ z (prefixes_at img (suc d)) → Memᴰ (z / 2) (prefixes_at img d)
  parent_mem d z h m =
      let c = child_of_mem z (prefixes_at img d) (level_at img d) (level_valid img (bytes r) (checked r) r.some d h)
      (subst (λ (l : List ℕ). Memᴰ z l) (prefixes_next img (bytes r) (checked r) r.some d h) m) in
      Memᴰ.cast c.prefix (mem_at (prefixes_at img d) c.index c.within)

  module _ (b : ℕ) (lo : 1 ≤ b) (hi : b ≤ 8) (i : ℕ) where
    module _ (l p n y : ℕ) (w : Reached img b i l p n y) where
      -- a bit of a node is on where its prefix goes on so
      bit-on : (t : ℕ) → t ≤ 1 → 1 ≤ bit t (get_or (page_pairs img b i) p 0) → Memᴰ (2 * y + t) (prefixes_at img (suc (depth b l)))
      bit-on t le on =
          let d : depth b l < 32 = omega (arith, w.in_page) in
          let k = reached_index img (bytes r) (checked r) r.some b lo hi i l p n y w in
          let on' : 1 ≤ bit t (get_or (level_at img (depth b l)) n 0) = rw (← reached_node img (bytes r) (checked r) r.some b lo hi i l p n y w) on in
          Memᴰ.cast (sym (ap (λ (z : ℕ). 2 * z + t) w.prefix) ∙ sym (next_prefix img (bytes r) (checked r) r.some (depth b l) n t d k le on'))
          (mem_at (prefixes_at img (suc (depth b l))) (child_at (level_at img (depth b l)) n t) (next_within img (bytes r) (checked r) r.some (depth b l) n t d k le on'))

      pub bit_is : (t : ℕ) → t ≤ 1 → bit t (get_or (page_pairs img b i) p 0) ≡ as_bit (is_in (2 * y + t) (prefixes_at img (suc (depth b l))))
      unfolding as_bit
      bit_is t le = go (is_in (2 * y + t) (prefixes_at img (suc (depth b l)))) (tested (2 * y + t) (prefixes_at img (suc (depth b l))))
        where
          one : (t : ℕ) → t ≤ 1 → bit t (get_or (page_pairs img b i) p 0) ≤ 1
          one zero le = omega (arith, (reached_valid img (bytes r) (checked r) r.some b lo hi i l p n y w).1)
          one (suc t) le = omega arith

          go : (q : Bool) → Tested (2 * y + t) (prefixes_at img (suc (depth b l))) q → bit t (get_or (page_pairs img b i) p 0) ≡ as_bit q
          go true (member m) =
              elim (ℕ_discrete (bit t (get_or (page_pairs img b i) p 0)) 0) [
                | yes e ↦ absurd (reached_off img (bytes r) (checked r) r.some b lo hi i l p n y w t le e m)
                | no e ↦ omega (arith, one t le)
              ]
          go false (stranger f) =
              elim (ℕ_discrete (bit t (get_or (page_pairs img b i) p 0)) 0) [
                | yes e ↦ e
                | no e ↦ absurd (f (bit-on t le (omega arith)))
              ]

      -- the node itself, from the two prefixes that may go on
      pub node_is : get_or (page_pairs img b i) p 0 ≡ 2 * as_bit (is_in (2 * y) (prefixes_at img (suc (depth b l)))) + as_bit (is_in (2 * y + 1) (prefixes_at img (suc (depth b l))))
      node_is =
          let z : 2 * y + 0 ≡ 2 * y = omega arith in
          omega (arith, bit_is 0 (omega arith), bit_is 1 (omega arith), ap (λ (k : ℕ). as_bit (is_in k (prefixes_at img (suc (depth b l))))) z)

    -- the place of the first child
    first-child : (l p n y : ℕ) (w : Reached img b i l p n y) (f : FirstBit (get_or (page_pairs img b i) p 0)) → child_place img b i p f.t ≡ child_place img b i p 0
    first-child l p n y w f = go f.t f.small f.off
      where
        go : (t : ℕ) → t ≤ 1 → (t ≡ 1 → get_or (page_pairs img b i) p 0 / 2 ≡ 0) → child_place img b i p t ≡ child_place img b i p 0
        go zero le e = refl
        go (suc zero) le e = omega (arith, e refl)
        go (suc (suc t)) le e = absurd (omega arith)

    module _ (l w base p : ℕ) (c : LevelStart img b i l w base p) where
      f : FirstBit (get_or (page_pairs img b i) p 0)
      f = let v = reached_valid img (bytes r) (checked r) r.some b lo hi i l p c.n c.y c.way in first_bit (get_or (page_pairs img b i) p 0) v.0 v.1

      -- no prefix one bit longer lies in the subtrie before the first child's
      first_below : (z : ℕ) → Memᴰ z (prefixes_at img (suc (depth b l))) → z < 2 * c.y + f.t → z < 2 * base
      first_below z m h =
          let d : depth b l < 32 = omega (arith, c.way.in_page) in
          elim (dec_lt (z / 2) c.y) [
            | yes k ↦ omega (arith, c.first (z / 2) (parent_mem (depth b l) z d m) k)
            | no k ↦ let one : f.t ≡ 1 = omega (arith, f.small) in
                let e : z ≡ 2 * c.y + 0 = omega (arith, f.small) in
                absurd (reached_off img (bytes r) (checked r) r.some b lo hi i l p c.n c.y c.way 0 (omega arith) (f.off one) (Memᴰ.cast (sym e) m))
          ]

      below_all : (z : ℕ) → Memᴰ z (prefixes_at img (suc (depth b l))) → 2 * base ≤ z → z < 2 * base + 2 * w → ReachedTo img b i l (z / 2)
      below_all z m from to = c.all (z / 2) (parent_mem (depth b l) z (omega (arith, c.way.in_page)) m) (omega arith) (omega arith)

      pub start_next : l < 3 → LevelStart img b i (suc l) (2 * w) (2 * base) (child_place img b i p 0)
      start_next h =
          let d : suc (depth b l) ≡ depth b (suc l) = omega arith in
          let first_way = reached_child img (bytes r) (checked r) r.some b lo hi i l p c.n c.y c.way f.t f.small f.on h in
          record {
            n = child_at (level_at img (depth b l)) c.n f.t;
            y = 2 * c.y + f.t;
            way = subst (λ (q : ℕ). Reached img b i (suc l) q (child_at (level_at img (depth b l)) c.n f.t) (2 * c.y + f.t)) (first-child l p c.n c.y c.way f) first_way;
            lower = omega (arith, c.lower);
            upper = omega (arith, c.upper, f.small);
            first = λ z m. first_below z (subst (λ (k : ℕ). Memᴰ z (prefixes_at img k)) (sym d) m);
            all = λ z m from to. child z (subst (λ (k : ℕ). Memᴰ z (prefixes_at img k)) (sym d) m) from to;
          }
        where
          child : (z : ℕ) → Memᴰ z (prefixes_at img (suc (depth b l))) → 2 * base ≤ z → z < 2 * base + 2 * w → ReachedTo img b i (suc l) z
          child z m from to =
              let q = below_all z m from to in
              let e : z ≡ 2 * (z / 2) + z % 2 = omega arith in
              let on : 1 ≤ bit (z % 2) (get_or (page_pairs img b i) q.p 0) =
              elim (ℕ_discrete (bit (z % 2) (get_or (page_pairs img b i) q.p 0)) 0) [
                | yes o ↦ absurd (reached_off img (bytes r) (checked r) r.some b lo hi i l q.p q.n (z / 2) q.way (z % 2) (omega arith) o (Memᴰ.cast (sym e) m))
                | no o ↦ omega arith
              ] in
              record {
                p = child_place img b i q.p (z % 2);
                n = child_at (level_at img (depth b l)) q.n (z % 2);
                way = subst (Reached img b i (suc l) (child_place img b i q.p (z % 2)) (child_at (level_at img (depth b l)) q.n (z % 2))) (sym e)
                    (reached_child img (bytes r) (checked r) r.some b lo hi i l q.p q.n (z / 2) q.way (z % 2) (omega arith) on h);
              }

      -- past the fourth level: the first out-link, which is the rank of the subtrie's first prefix of 4 b bits
      first_out : l ≡ 3 → Out img b i (child_place img b i p 0) (2 * c.y + f.t)
      first_out h =
          subst (λ (q : ℕ). Out img b i q (2 * c.y + f.t)) (first-child l p c.n c.y c.way f)
          (reached_out img (bytes r) (checked r) r.some b lo hi i l p c.n c.y c.way f.t f.small f.on h)

      pub start_past : l ≡ 3 → page_nodes img b i ≤ child_place img b i p 0
      start_past h = (first_out h).past

      pub start_out : l ≡ 3 → out_link img b i (child_place img b i p 0) ≡ rank_in (prefixes_at img (4 * b)) (2 * base)
      start_out h =
          let d : suc (depth b l) ≡ 4 * b = omega arith in
          let o : Out img b i (child_place img b i p 0) (2 * c.y + f.t) = first_out h in
          sym (rank_first (prefixes_at img (4 * b)) (out_link img b i (child_place img b i p 0)) (2 * base) (prefixes_asc img (bytes r) (checked r) r.some (4 * b)) o.within
          (omega (arith, o.prefix, c.lower))
          (λ z m lt. first_below z (subst (λ (k : ℕ). Memᴰ z (prefixes_at img k)) (sym d) m) (omega (arith, o.prefix))))

      -- a node of the level stands after as many as prefixes lie between
      pub start_rank : c.n ≡ rank_in (prefixes_at img (depth b l)) base
      start_rank =
          let k = reached_index img (bytes r) (checked r) r.some b lo hi i l p c.n c.y c.way in
          sym (rank_first (prefixes_at img (depth b l)) c.n base (prefixes_asc img (bytes r) (checked r) r.some (depth b l)) k (omega (arith, c.way.prefix, c.lower))
          (λ z m lt. c.first z m (omega (arith, c.way.prefix))))

      pub start_place : (z : ℕ) → Memᴰ z (prefixes_at img (depth b l)) → base ≤ z → z < base + w → {q : ℕ}
          → q + rank_in (prefixes_at img (depth b l)) base ≡ p + rank_in (prefixes_at img (depth b l)) z → Reached img b i l q (rank_in (prefixes_at img (depth b l)) z) z
      start_place z m from to {q} e =
          let t = c.all z m from to in
          let k = reached_index img (bytes r) (checked r) r.some b lo hi i l t.p t.n z t.way in
          let n : t.n ≡ rank_in (prefixes_at img (depth b l)) z = sym (prefix_rank img (bytes r) (checked r) r.some (depth b l) t.n k) ∙ ap (rank_in (prefixes_at img (depth b l))) t.way.prefix in
          let same : t.p ≡ q = omega (arith, start_rank, t.way.place, t.way.index, c.way.place, c.way.index) in
          subst (λ (v : ℕ). Reached img b i l v (rank_in (prefixes_at img (depth b l)) z) z) same (subst (λ (v : ℕ). Reached img b i l t.p v z) n t.way)
