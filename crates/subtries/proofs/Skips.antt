-- A spot moved on within its page: on each level as many nodes are skipped as the level above has on bits in the nodes skipped there.
-- Assumes nothing.
use mathlib.Core.List.{List}
use mathlib.Core.Path.{◌≡◌, refl, sym, ap, ap₂, subst, ◌∙◌}
use Prim.Native.Nat.{ℕ, zero, suc, ◌+◌, ◌-◌, ◌*◌, ◌/◌, ◌%◌, ◌≤◌, ◌<◌}
use native.Mathlib.Nat.{add_assoc, add-zero, le_of_lt}
use native.Mathlib.Omega.{arith}
use lib.ListN.{take, drop}
use Rattle.format.specs.Trie.{on_bits}
use Rattle.format.specs.Seq.{rank_in}
use Rattle.format.specs.Image.{page_pairs, page_roots, page_t, prefixes_at}
use Rattle.format.proofs.Descent.{on_bits-suc}
use Rattle.format.proofs.Levels.{child_place}
use Rattle.format.proofs.Read.{pairs_240}
use Rattle.subtries.specs.declared.spot.Spot.{Spot}
use Rattle.pages.specs.Page.{Ready}
use Rattle.subtries.specs.Spot.{LevelStart, SpotAt, root_prefix}
use Rattle.subtries.specs.OnBits.{on_bits_from}
use Rattle.pages.proofs.Pages.{bytes, checked}
use Rattle.subtries.proofs.Starts.{start_next, start_out, start_past}
use Rattle.subtries.proofs.Next.{start_shift}
use Rattle.subtries.proofs.Spots.{read_node_is, root_start, start_fits}

module _ {img : List ℕ} (r : Ready img) {b : ℕ} (lo : 1 ≤ b) (hi : b ≤ 8) {spot : Spot} (s : SpotAt img b spot) {part : List ℕ} (ep : part ≡ take 64 (drop spot.at img)) where
  -- the first child's place moves on by the on bits between
  child-later : (p n : ℕ) → p + n ≤ 240 → child_place img b s.i (p + n) 0 ≡ child_place img b s.i p 0 + on_bits_from part p n
  unfolding on_bits_from
  child-later p zero h = ap (λ (k : ℕ). child_place img b s.i k 0) (add-zero p) ∙ sym (add-zero (child_place img b s.i p 0))
  child-later p (suc n) h =
      let e : p + suc n ≡ suc (p + n) = omega arith in
      let node = read_node_is r lo hi s ep (p + n) (omega arith) in
      let more = on_bits-suc (page_pairs img b s.i) (p + n) (omega (arith, pairs_240 img (bytes r) (checked r) b lo hi s.i s.in_band)) in
      ap (λ (k : ℕ). child_place img b s.i k 0) e
      ∙ ap (page_roots img b s.i +◌) more
      ∙ sym (add_assoc (page_roots img b s.i) (on_bits (take (p + n) (page_pairs img b s.i))) _)
      ∙ ap₂ (λ (x y : ℕ). x + (y / 2 + y % 2)) (child-later p n (omega arith)) (sym node)
      ∙ add_assoc (child_place img b s.i p 0) (on_bits_from part p n) _

  -- a level of a subtrie has one place
  same_place : {l w base p q : ℕ} → LevelStart img b s.i l w base p → LevelStart img b s.i l w base q → p ≡ q
  same_place {l} {w} {base} {p} {q} c d = omega (arith, start_shift img r b lo hi s.i l w base p base q c d)

  -- where the next level starts, from where levels of two subtries start
  below-later : (n : ℕ) {l w base base' p q : ℕ} → l < 3 → LevelStart img b s.i l w base p → LevelStart img b s.i (suc l) (2 * w) (2 * base) q → LevelStart img b s.i l w base' (p + n) → {m : ℕ} → m ≡ on_bits_from part p n
      → LevelStart img b s.i (suc l) (2 * w) (2 * base') (q + m)
  below-later n {l} {w} {base} {base'} {p} {q} h c d later {m} em =
      let first : q ≡ child_place img b s.i p 0 = same_place d (start_next img r b lo hi s.i l w base p c h) in
      let at : child_place img b s.i (p + n) 0 ≡ q + m = child-later p n (le_of_lt (start_fits r lo hi s ep later)) ∙ ap₂ ◌+◌ (sym first) (sym em) in
      subst (LevelStart img b s.i (suc l) (2 * w) (2 * base')) at (start_next img r b lo hi s.i l w base' (p + n) later h)

  -- the first out-link, from where the fourth levels start
  out-later : (n : ℕ) {base base' p m : ℕ} → LevelStart img b s.i 3 8 base p → LevelStart img b s.i 3 8 base' (p + n) → m ≡ on_bits_from part p n
      → rank_in (prefixes_at img (4 * b)) (2 * base) + m ≡ rank_in (prefixes_at img (4 * b)) (2 * base')
  out-later n {base} {base'} {p} {m} c later em =
      omega (
        arith,
        start_out img r b lo hi s.i 3 8 base p c refl,
        start_past img r b lo hi s.i 3 8 base p c refl,
        start_out img r b lo hi s.i 3 8 base' (p + n) later refl,
        child-later p n (le_of_lt (start_fits r lo hi s ep later)),
      )

  module _ {n : ℕ} (from : spot.root.0 ≤ n) (to : n < spot.end.0) where
    -- where the levels of root n's subtrie start, and that they stand in the page
    later₀ : LevelStart img b s.i 0 1 (root_prefix img b n) (spot.first + (n - spot.root.0))
    later₀ =
        let here = same_place s.start₀ (root_start r lo hi s s.from (omega (arith, s.to, s.end_is))) in
        let at : n - page_t img b s.i ≡ spot.first + (n - spot.root.0) = omega (arith, s.from) in
        subst (LevelStart img b s.i 0 1 (root_prefix img b n)) at (root_start r lo hi s (omega (arith, s.from)) (omega (arith, s.end_is)))

    pub fits₀ : spot.first + (n - spot.root.0) < 240
    fits₀ = start_fits r lo hi s ep later₀

    module _ {two : ℕ} (e₁ : two ≡ on_bits_from part spot.first (n - spot.root.0)) where
      later₁ : LevelStart img b s.i 1 2 (2 * root_prefix img b n) (spot.second + two)
      later₁ = below-later (n - spot.root.0) (omega arith) s.start₀ s.start₁ later₀ e₁

      pub fits₁ : spot.second + two < 240
      fits₁ = start_fits r lo hi s ep later₁

      module _ {three : ℕ} (e₂ : three ≡ on_bits_from part spot.second two) where
        later₂ : LevelStart img b s.i 2 4 (2 * (2 * root_prefix img b n)) (spot.third + three)
        later₂ = below-later two (omega arith) s.start₁ s.start₂ later₁ e₂

        pub fits₂ : spot.third + three < 240
        fits₂ = start_fits r lo hi s ep later₂

        module _ {four : ℕ} (e₃ : four ≡ on_bits_from part spot.third three) where
          later₃ : LevelStart img b s.i 3 8 (2 * (2 * (2 * root_prefix img b n))) (spot.fourth + four)
          later₃ = below-later three (omega arith) s.start₂ s.start₃ later₂ e₃

          pub fits₃ : spot.fourth + four < 240
          fits₃ = start_fits r lo hi s ep later₃

          -- the spot of the root
          pub spot_later : {out : ℕ} → out ≡ on_bits_from part spot.fourth four → {next : Spot} → next.root.0 ≡ n → next.end.0 ≡ spot.end.0 → next.at ≡ spot.at → next.first ≡ spot.first + (n - spot.root.0)
              → next.second ≡ spot.second + two → next.third ≡ spot.third + three → next.fourth ≡ spot.fourth + four → next.link.0 ≡ spot.link.0 + out → SpotAt img b next
          spot_later {out} eo {next} er en ea p₀ p₁ p₂ p₃ el =
              let y = root_prefix img b spot.root.0 in
              let y' = root_prefix img b n in
              let u : 16 * y ≡ 2 * (2 * (2 * (2 * y))) = omega arith in
              let u' : 2 * (2 * (2 * (2 * y'))) ≡ 16 * y' = omega arith in
              let links = out-later four s.start₃ later₃ eo in
              record {
                i = s.i;
                in_band = s.in_band;
                from = omega (arith, er, s.from);
                to = omega (arith, er, en);
                end_is = en ∙ s.end_is;
                at_is = ea ∙ s.at_is;
                start₀ = rw (er, p₀) later₀;
                start₁ = rw (er, p₁) later₁;
                start₂ = rw (er, p₂) later₂;
                start₃ = rw (er, p₃) later₃;
                link_is =
                    rw er (el ∙ ap (◌+ out) (s.link_is ∙ ap (rank_in (prefixes_at img (4 * b))) u) ∙ links ∙ ap (rank_in (prefixes_at img (4 * b))) u');
              }
