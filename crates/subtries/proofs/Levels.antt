-- The levels of a subtrie as sets: what is read under a level's set is the next level's.
-- Assumes nothing.
use mathlib.Core.Bool.{Bool, true, false}
use mathlib.Core.List.Memᴰ
use mathlib.Core.List.{List, Memᴰ}
use mathlib.Core.Path.{◌≡◌, refl, sym, ap, ◌∙◌}
use Prim.Native.Nat.{ℕ, zero, suc, ◌+◌, ◌*◌, ◌/◌, ◌≤◌, ◌<◌}
use native.Mathlib.Nat.{add-zero}
use native.Mathlib.Omega.{arith}
use lib.ListN.{get_or}
use Rattle.format.specs.Seq.{is_in, rank_in}
use Rattle.format.specs.Image.{page_pairs, prefixes_at, depth}
use Rattle.format.proofs.Levels.{prefixes_asc}
use Rattle.format.proofs.Walk.{reached_place}
use Rattle.reader.specs.Page.{node_of}
use Rattle.pages.specs.Page.{Ready}
use Rattle.subtries.specs.Subtrie.{as_bit, set_of, set_bit, level_set, place_after, bits_after, if_on}
use Rattle.pages.proofs.Pages.{bytes, checked}
use Rattle.subtries.proofs.Ranks.{Tested, member, stranger, tested, rank_next}
use Rattle.subtries.proofs.Sets.{set-bit}
use Rattle.subtries.specs.Spot.{LevelStart}
use Rattle.subtries.proofs.Starts.{start_place, node_is, parent_mem}

module _ (img : List ℕ) (r : Ready img) (b : ℕ) (lo : 1 ≤ b) (hi : b ≤ 8) (i : ℕ) (page : List ℕ) (read : (j : ℕ) → j < 240 → node_of page j ≡ get_or (page_pairs img b i) j 0) where
  module _ (l w base p : ℕ) (lv : l < 4) (c : LevelStart img b i l w base p) where
    pub record Read (v : ℕ) : Type 0 where
      pub place_is : place_after (level_set img (depth b l) base w) w p v + rank_in (prefixes_at img (depth b l)) base ≡ p + rank_in (prefixes_at img (depth b l)) (base + v)
      pub bits_are : bits_after page (level_set img (depth b l) base w) w p v ≡ set_of (λ u. is_in (2 * base + u) (prefixes_at img (suc (depth b l)))) (2 * v)
      pub small : place_after (level_set img (depth b l) base w) w p v ≤ 240

    -- a node under an on bit is one of the page's
    next_small : (v q : ℕ) → v < w → q + rank_in (prefixes_at img (depth b l)) base ≡ p + rank_in (prefixes_at img (depth b l)) (base + v) → q ≤ 240
        → q + as_bit (is_in (base + v) (prefixes_at img (depth b l))) ≤ 240
    unfolding as_bit
    next_small v q h e le = go (is_in (base + v) (prefixes_at img (depth b l))) (tested (base + v) (prefixes_at img (depth b l)))
      where
        go : (t : Bool) → Tested (base + v) (prefixes_at img (depth b l)) t → q + as_bit t ≤ 240
        go true (member m) =
            let way = start_place img r b lo hi i l w base p c (base + v) m (omega arith) (omega arith) e in
            let few = ((checked r).page b i lo hi way.in_band).within in
            omega (arith, reached_place img (bytes r) (checked r) r.some b lo hi i l q _ (base + v) way)
        go false (stranger f) = omega arith

    -- what stands under the next bit
    under-bit : (v q : ℕ) → v < w → q + rank_in (prefixes_at img (depth b l)) base ≡ p + rank_in (prefixes_at img (depth b l)) (base + v)
        → if_on (as_bit (is_in (base + v) (prefixes_at img (depth b l)))) (node_of page q) ≡ 2 * as_bit (is_in (2 * (base + v)) (prefixes_at img (suc (depth b l)))) + as_bit (is_in (2 * (base + v) + 1) (prefixes_at img (suc (depth b l))))
    unfolding as_bit
    under-bit v q h e = go (is_in (base + v) (prefixes_at img (depth b l))) (tested (base + v) (prefixes_at img (depth b l)))
      where
        d : depth b l < 32
        d = omega arith

        none : (t : ℕ) → t ≤ 1 → (Memᴰ (base + v) (prefixes_at img (depth b l)) → ⊥) → is_in (2 * (base + v) + t) (prefixes_at img (suc (depth b l))) ≡ false
        none t le f =
            Rattle.format.proofs.Descent.is_in-not (2 * (base + v) + t) (prefixes_at img (suc (depth b l)))
            (λ m. let e : base + v ≡ (2 * (base + v) + t) / 2 = omega arith in f (Memᴰ.cast e (parent_mem img r (depth b l) (2 * (base + v) + t) d m)))

        go : (t : Bool) → Tested (base + v) (prefixes_at img (depth b l)) t → if_on (as_bit t) (node_of page q) ≡ 2 * as_bit (is_in (2 * (base + v)) (prefixes_at img (suc (depth b l)))) + as_bit (is_in (2 * (base + v) + 1) (prefixes_at img (suc (depth b l))))
        go true (member m) =
            let way = start_place img r b lo hi i l w base p c (base + v) m (omega arith) (omega arith) e in
            let few = ((checked r).page b i lo hi way.in_band).within in
            read q (omega (arith, reached_place img (bytes r) (checked r) r.some b lo hi i l q _ (base + v) way)) ∙ node_is img r b lo hi i l q _ (base + v) way
        go false (stranger f) =
            let z : 2 * (base + v) + 0 ≡ 2 * (base + v) = omega arith in
            let e₀ : is_in (2 * (base + v)) (prefixes_at img (suc (depth b l))) ≡ false = ap (λ (k : ℕ). is_in k (prefixes_at img (suc (depth b l)))) (sym z) ∙ none 0 (omega arith) f in
            rw (e₀, none 1 (omega arith) f)

    read-start : Read 0
    unfolding place_after bits_after set_of
    read-start = record { place_is = ap (λ (n : ℕ). p + rank_in (prefixes_at img (depth b l)) n) (sym (add-zero base)); bits_are = refl; small = let few = ((checked r).page b i lo hi c.way.in_band).within in omega (arith, reached_place img (bytes r) (checked r) r.some b lo hi i l p c.n c.y c.way) }

    read_next : (v : ℕ) → v < w → Read v → Read (suc v)
    unfolding place_after bits_after set_of
    read_next v h s =
        let set = level_set img (depth b l) base w in
        let bit_is : set_bit set w v ≡ as_bit (is_in (base + v) (prefixes_at img (depth b l))) = set-bit (λ v. is_in (base + v) (prefixes_at img (depth b l))) w v h in
        let e : base + suc v ≡ suc (base + v) = omega arith in
        let two : 2 * suc v ≡ suc (suc (2 * v)) = omega arith in
        let first : 2 * base + 2 * v ≡ 2 * (base + v) = omega arith in
        let second : 2 * base + suc (2 * v) ≡ 2 * (base + v) + 1 = omega arith in
        let f : ℕ → Bool = λ u. is_in (2 * base + u) (prefixes_at img (suc (depth b l))) in
        let under = under-bit v (place_after set w p v) h s.place_is in
        record {
          place_is = omega (arith, s.place_is, rank_next (prefixes_at img (depth b l)) (base + v) (prefixes_asc img (bytes r) (checked r) r.some (depth b l)), ap (rank_in (prefixes_at img (depth b l))) e);
          bits_are =
              ap (λ (n : ℕ). 4 * bits_after page set w p v + if_on n (node_of page (place_after set w p v))) bit_is
              ∙ omega (arith, s.bits_are, ap (set_of f) two, ap (λ (n : ℕ). as_bit (is_in n (prefixes_at img (suc (depth b l))))) first, ap (λ (n : ℕ). as_bit (is_in n (prefixes_at img (suc (depth b l))))) second);
          small = omega (arith, next_small v (place_after set w p v) h s.place_is s.small, bit_is);
        }

    pub read_all : (v : ℕ) → v ≤ w → Read v
    read_all zero h = read-start
    read_all (suc v) h = read_next v (omega arith) (read_all v (omega arith))

    pub level_next : bits_after page (level_set img (depth b l) base w) w p w ≡ level_set img (suc (depth b l)) (2 * base) (2 * w)
    level_next = (read_all w (omega arith)).bits_are

    pub level_room : place_after (level_set img (depth b l) base w) w p w ≤ 240
    level_room = (read_all w (omega arith)).small
