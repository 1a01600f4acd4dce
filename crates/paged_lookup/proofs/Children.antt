-- From a node to its child in a page's words: the numbers that the steps take, as the code counts them, and where they end.
-- Assumes nothing.
use mathlib.Core.Path.{◌≡◌, sym, ap, ap₂, ◌∙◌, subst}
use mathlib.Core.Bool.{true}
use mathlib.Core.List.{List, []}
use Prim.Native.Nat.{ℕ, zero, suc, ◌+◌, ◌-◌, ◌*◌, ◌%◌, ◌≤◌, ◌<◌}
use native.Mathlib.Omega.{arith}
use lib.ListN.{length, get_or, take}
use Rattle.format.specs.Trie.{bit, child_at, on_bits}
use Rattle.format.specs.Page.{offset}
use Rattle.format.specs.Child.{child_by_steps, node_at, nodes_after, out_links_so_far, step_back}
use Rattle.format.proofs.Descent.{child_place_lem, node_at_lem, on_bits-suc}
use Rattle.format.proofs.Places.{level_next, level_nodes, offset_within, row_first}
use Rattle.format.proofs.Child.{after, node_there, so_far, steps_end}
use Rattle.nodes.specs.Words.{node_in, ones_through, pairs_in}
use Rattle.nodes.proofs.Pairs.{through_in}
use Rattle.pages.specs.Page.{child_in}
use Rattle.paged_lookup.specs.Way.{NodeOn, four_levels}
use Rattle.paged_lookup.proofs.PageLevels.{child_read, four, here, level_end, next, node_here, shaped, start_fits}

-- ---- one back

pub back_is : (node side : ℕ) → side ≤ 1 → (1 - side) * (node % 2) ≡ step_back node side
unfolding step_back
back_is node zero h = omega arith
back_is node (suc zero) h = omega arith
back_is node (suc (suc side)) h = absurd (omega arith)

-- ---- the steps from a node

-- the numbers that the steps take, as the code counts them
pub record Counted (word before : List ℕ) (roots end place : ℕ) : Type 0 where
  pub few_roots : roots ≤ end
  pub end_fits : end ≤ 240
  pub links : ones_through word before place ≡ end - roots + out_links_so_far (four_levels word roots) place
  pub some_links : 1 ≤ out_links_so_far (four_levels word roots) place
  pub node_is : node_in word place ≡ node_at (four_levels word roots) place
  pub after_is : end - 1 - place ≡ nodes_after (four_levels word roots) place

module _ {word before : List ℕ} {roots end place : ℕ} (n : NodeOn word before roots end place) where
  -- the level is one of four, and the place that of its node j
  in_page : n.level < length (four_levels word roots)
  in_page = omega (arith, four n.page_in, n.early)

  j : ℕ
  j = place - offset n.level (four_levels word roots)

  at : place ≡ offset n.level (four_levels word roots) + j
  unfolding j
  at = omega (arith, n.from)

  inner : j < length (get_or (four_levels word roots) n.level [])
  unfolding j
  inner = omega (arith, n.from, n.to, n.end_is, offset_within n.level (four_levels word roots) in_page)

  valid : (1 ≤ get_or (get_or (four_levels word roots) n.level []) j 0) × (get_or (get_or (four_levels word roots) n.level []) j 0 ≤ 3)
  valid = node_at_lem (get_or (four_levels word roots) n.level []) j (level_nodes roots n.level (four_levels word roots) (shaped n.page_in) in_page) inner

  node_read : node_in word place ≡ get_or (get_or (four_levels word roots) n.level []) j 0
  unfolding here
  node_read = node_here n.page_in n.level j place (omega (arith, n.early)) at inner

  pub counted : Counted word before roots end place
  counted =
      let d = n.page_in in
      let page = four_levels word roots in
      let level = get_or (four_levels word roots) n.level [] in
      let so : out_links_so_far page place ≡ on_bits (take (suc j) level) = ap (out_links_so_far page) at ∙ so_far page n.level j in_page inner in
      let next_place : suc place ≡ offset n.level page + suc j = omega (arith, at) in
      let fits : end ≤ 240 = omega (arith, n.end_is, start_fits d (suc n.level)) in
      record {
        few_roots = omega (arith, n.end_is, level_end d n.level (omega (arith, n.early)));
        end_fits = fits;
        links = omega (
          arith,
          so,
          n.end_is,
          level_end d n.level (omega (arith, n.early)),
          through_in d.gathered place (omega (arith, n.to)),
          ap (λ (q : ℕ). on_bits (take q (pairs_in word))) next_place,
          row_first (pairs_in word) roots (shaped d) n.level (suc j) (omega (arith, n.early)) (omega (arith, inner)),
        );
        some_links = omega (arith, so, on_bits-suc level j inner, valid);
        node_is = node_read ∙ sym (ap (node_at page) at ∙ node_there page n.level j in_page inner);
        after_is = omega (arith, at, n.end_is, offset_within n.level page in_page, ap (nodes_after page) at, after page n.level j in_page inner);
      }

  -- so these make the steps
  pub by_steps : (side : ℕ) {count node back : ℕ} → count ≡ ones_through word before place → node ≡ node_in word place → back ≡ step_back node side
      → place + (end - 1 - place) + (count - (end - roots) - back) ≡ child_by_steps (four_levels word roots) place side
  unfolding child_by_steps
  by_steps side {count} {node} {back} ec en eb =
      let links : count - (end - roots) ≡ out_links_so_far (four_levels word roots) place = omega (arith, counted.links) in
      ap₂ (λ (a p : ℕ). place + a + p) counted.after_is (ap₂ ◌-◌ links (eb ∙ ap (λ (v : ℕ). step_back v side) (en ∙ counted.node_is)))

  -- from an on bit
  module _ (side : ℕ) (small : side ≤ 1) (on : 1 ≤ bit side (node_in word place)) where
    lit : 1 ≤ bit side (get_or (get_or (four_levels word roots) n.level []) j 0)
    lit = subst (λ (v : ℕ). 1 ≤ bit side v) node_read on

    ends : child_by_steps (four_levels word roots) place side ≡ offset (suc n.level) (four_levels word roots) + child_at (get_or (four_levels word roots) n.level []) j side
    ends = ap (λ (q : ℕ). child_by_steps (four_levels word roots) q side) at ∙ steps_end (four_levels word roots) n.level j in_page inner side valid.1 small lit

    -- they end where the roots and the page's on bits before it count to
    pub steps_counted : child_by_steps (four_levels word roots) place side ≡ child_in word before roots place side
    unfolding here next
    steps_counted = ends ∙ sym (child_read n.page_in n.level j place (omega (arith, n.early)) at true side inner)

    -- which is in the page
    pub steps_within : child_by_steps (four_levels word roots) place side ≤ 240
    steps_within =
        let level = get_or (four_levels word roots) n.level [] in
        let later : suc n.level < length (four_levels word roots) = omega (arith, four n.page_in, n.early) in
        omega (
          arith,
          ends,
          child_place_lem level j side inner small lit,
          level_next roots n.level (four_levels word roots) (shaped n.page_in) later,
          offset_within (suc n.level) (four_levels word roots) later,
          start_fits n.page_in (suc (suc n.level)),
        )
