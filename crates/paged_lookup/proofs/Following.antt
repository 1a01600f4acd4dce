-- A key's way in a page, a level at a time, as the code goes: on every page that gets a yes at 9 to 11.
-- Assumes nothing.
use mathlib.Core.Path.{◌≡◌, sym, ap, ap₂, ◌∙◌, subst}
use mathlib.Core.Bool.{Bool, true, false, not, cond, ◌&&◌}
use mathlib.Core.List.{List, []}
use Prim.Native.Nat.{ℕ, suc, ◌+◌, ◌-◌, ◌≤◌, ◌<◌}
use native.Mathlib.Nat.{add-zero}
use native.Mathlib.Omega.{arith}
use lib.ListN.{length, get_or, drop, drop_of_length-le}
use lib.Seq.{drop-cons}
use Rattle.format.specs.Key.{key_bit}
use Rattle.format.specs.Trie.{bit, on_bits}
use Rattle.format.specs.Page.{levels_in, offset}
use Rattle.format.specs.Question.{is_zero}
use Rattle.format.proofs.Places.{level_next, offset_within}
use Rattle.nodes.specs.Words.{node_in, ones_before}
use Rattle.pages.specs.Page.{child_in}
use Rattle.paged_lookup.specs.declared.page.Judged.{Judged}
use Rattle.paged_lookup.specs.declared.page.Position.{Position}
use Rattle.paged_lookup.specs.Paged.{Way, follow, step}
use Rattle.paged_lookup.specs.Way.{JudgedIn, NodeOn, PageIn, four_levels, way_at}
use Rattle.paged_lookup.proofs.Ways.{Below, step-below}
use Rattle.paged_lookup.proofs.PageLevels.{child_read, first_end, four, here, next, next_end, nodes_end, page_ok, place_room, shaped, start_fits, step_read}

-- after some levels the way stands at a place, of the next level, whose last node stands before place `end`, or past the fourth of the out-links
pub record Going (word before : List ℕ) (page : Judged) (from : Way) (key level : ℕ) (at : Position) (end passed : ℕ) : Type 0 where
  pub judged : JudgedIn word before page
  pub deep : level + 4 ≤ 32
  pub few : passed ≤ 4
  pub j : ℕ
  pub place_is : at.place ≡ offset passed (four_levels word page.roots) + j
  pub inner : passed < 4 → Below (length (get_or (four_levels word page.roots) passed [])) (way_at at.on j)
  pub end_is : passed < 4 → end ≡ offset (suc passed) (four_levels word page.roots)
  pub short : at.place < 65700
  pub same : follow key level (four_levels word page.roots) from ≡ follow key (level + passed) (drop passed (four_levels word page.roots)) (way_at at.on j)

pub going_start : {word before : List ℕ} {page : Judged} {root key level : ℕ} {on : Bool} → JudgedIn word before page → root < page.roots → level + 4 ≤ 32
    → Going word before page (way_at on root) key level (record { place = root; on = on }) page.roots 0
unfolding levels_in
going_start {word} {before} {page} {root} {key} {level} {on} d h deep =
    record {
      judged = d;
      deep = deep;
      few = omega arith;
      j = root;
      place_is = omega arith;
      inner = λ _. below on;
      end_is = λ _. first_end d.page_in;
      short = omega (arith, (page_ok d.page_in).few_roots);
      same = ap (λ (n : ℕ). follow key n (four_levels word page.roots) (way_at on root)) (sym (add-zero level));
    }
  where
    below : (on : Bool) → Below (length (get_or (four_levels word page.roots) 0 [])) (way_at on root)
    below true = omega (arith, (shaped d.page_in).0)
    below false = omega (arith, (shaped d.page_in).0)

module _ {word before : List ℕ} {page : Judged} {from : Way} {key level : ℕ} {at : Position} {end passed : ℕ} (s : Going word before page from key level at end passed) where
  d : PageIn word before page.roots
  d = s.judged.page_in

  pub going_roots : page.roots ≤ 60
  going_roots = (page_ok d).few_roots

  pub going_fits : passed < 4 → end ≤ 240
  going_fits h = omega (arith, s.end_is h, start_fits d (suc passed))

  pub going_room : passed < 4 → (at.place ≤ 240) × (at.on ≡ true → at.place < 240)
  unfolding here
  going_room h = place_room d passed s.j at.place h s.place_is at.on (s.inner h)

  -- on one of the first three levels, where all bits were on, the place is a node's
  pub going_node : passed < 3 → at.on ≡ true → NodeOn word before page.roots end at.place
  going_node h t =
      let e = s.end_is (omega arith) in
      let k : s.j < length (get_or (four_levels word page.roots) passed []) = subst (λ on. Below (length (get_or (four_levels word page.roots) passed [])) (way_at on s.j)) t (s.inner (omega arith)) in
      record {
        page_in = d;
        level = passed;
        early = h;
        from = omega (arith, s.place_is);
        to = omega (arith, s.place_is, offset_within passed (four_levels word page.roots) (omega (arith, four d)));
        end_is = e;
      }

  pub going_next : passed < 4 → {side : ℕ} → side ≡ key_bit key (level + passed) → side ≤ 1 → {to : Position} → to.place ≡ child_in word before page.roots at.place (cond at.on side 0) → to.place < 65700
      → to.on ≡ (at.on && not (is_zero (bit side (node_in word at.place)))) → {count : ℕ} → count ≡ ones_before word before end → Going word before page from key level to (page.roots + count) (passed + 1)
  unfolding here follow
  going_next h {side} es small {to} ep lt eo ec =
      let levels = four_levels word page.roots in
      let ns = get_or levels passed [] in
      let k : Below (length ns) (way_at at.on s.j) = s.inner h in
      let j' = next d passed s.j at.place h s.place_is at.on side in
      let e : passed + 1 ≡ suc passed = omega arith in
      let deeper : suc (level + passed) ≡ level + (passed + 1) = omega arith in
      let to_is : step side ns (way_at at.on s.j) ≡ way_at to.on j' = sym (ap (λ t. way_at t j') eo ∙ step_read d passed s.j at.place h s.place_is at.on side k) in
      record {
        judged = s.judged;
        deep = s.deep;
        few = omega arith;
        j = j';
        place_is = ep ∙ child_read d passed s.j at.place h s.place_is at.on side k ∙ ap (λ (n : ℕ). offset n levels + j') (sym e);
        inner = λ l. subst (λ (m : ℕ). Below m (way_at to.on j'))
            (sym (ap (λ (n : ℕ). length (get_or levels n [])) e ∙ level_next page.roots passed levels (shaped d) (omega (arith, four d))))
            (subst (Below (on_bits ns)) to_is (step-below side ns (way_at at.on s.j) small k));
        end_is = λ k. ap (page.roots +◌) ec ∙ next_end d passed (omega arith) (s.end_is h) ∙ ap (λ (n : ℕ). offset (suc n) levels) (sym e);
        short = lt;
        same = s.same
            ∙ ap (λ ls. follow key (level + passed) ls (way_at at.on s.j)) (drop-cons levels passed [] (omega (arith, four d)))
            ∙ ap₂ (λ (n m : ℕ). follow key n (drop m levels) (step (key_bit key (level + passed)) ns (way_at at.on s.j))) deeper (sym e)
            ∙ ap (λ (t : ℕ). follow key (level + (passed + 1)) (drop (passed + 1) levels) (step t ns (way_at at.on s.j))) (sym es)
            ∙ ap (follow key (level + (passed + 1)) (drop (passed + 1) levels)) to_is;
      }

  -- past the fourth level
  past : 4 ≤ passed → at.place ≡ page.nodes + s.j
  past h =
      let e : passed ≡ 4 = omega (arith, s.few) in
      omega (arith, s.place_is, ap (λ (n : ℕ). offset n (four_levels word page.roots)) e, nodes_end d, s.judged.nodes_are)

  pub going_out : 4 ≤ passed → (page.nodes ≤ at.place) × (follow key level (four_levels word page.roots) from ≡ way_at at.on (at.place - page.nodes))
  unfolding follow
  going_out h =
      let none : drop passed (four_levels word page.roots) ≡ [] = drop_of_length-le (four_levels word page.roots) {i = passed} (omega (arith, four d)) in
      let number : s.j ≡ at.place - page.nodes = omega (arith, past h) in
      (omega (arith, past h), s.same ∙ ap (λ ls. follow key (level + passed) ls (way_at at.on s.j)) none ∙ ap (way_at at.on) number)
