-- The scan that finds where a page of a band ends: subtries join the page while it has at most 240 nodes.
-- Assumes nothing.
use mathlib.Core.Path.{◌≡◌, sym, ap, ap₂, ◌∙◌}
use mathlib.Core.List.{List, [], ◌∷◌}
use Prim.Native.Nat.{ℕ, ◌+◌, ◌-◌, ◌/◌, ◌≤◌, ◌<◌}
use native.Mathlib.Omega.{arith}
use native.Mathlib.Decide.{dec_lt}
use lib.ListN.{length, get_or, take, drop}
use lib.Seq.{drop-length}
use Rattle.format.specs.Page.{first_subtries, node_count}
use Rattle.format.specs.Writer.{pages_of}
use Rattle.format.proofs.Trie.{Asc}
use Rattle.format.proofs.RunHeads.{heads}
use Rattle.packing.specs.Run.{PageIs, band_above, more_nodes}
use Rattle.packing.proofs.Runs.{Run, run_of, rest_run, part, part_none, part_single, part_all, part_join, part_rest, count_more, differ_same, heads_single}
use Rattle.packing.proofs.Bands.{nodes_in, nodes_none, no_pages, nodes_are, pages_whole, one_shape, one_count, one_small, nodes_join, pages_cut, first_cut, first_all}

-- the page that begins at a prefix: its end and its nodes
pub record PageAt (keys : List ℕ) (from end nodes : ℕ) : Type 0 where
  pub after : from < end
  pub within : end ≤ length keys
  pub fits : nodes ≤ 240
  pub nodes_are : nodes ≡ nodes_in (part from end keys)
  pub page : pages_of (band_above (drop from keys)) ≡ band_above (part from end keys) ∷ pages_of (band_above (drop end keys))
  pub apart : end < length keys → get_or keys (end - 1) 0 / 16 ≡ get_or keys end 0 / 16 → ⊥

-- the first page
pub page_first : (keys : List ℕ) (end nodes : ℕ) → PageAt keys 0 end nodes → PageIs keys (record { end = end; nodes = nodes })
unfolding nodes_in
page_first keys end nodes p =
    let z : end - 0 ≡ end = omega arith in
    record {
      some = p.after;
      within = p.within;
      fits = p.fits;
      nodes_are = p.nodes_are ∙ ap (λ (n : ℕ). nodes_in (take n keys)) z;
      page = p.page ∙ ap (λ (n : ℕ). band_above (take n keys) ∷ pages_of (band_above (drop end keys))) z;
      apart = p.apart;
    }

-- at prefix i: the page has the prefixes from `from` to `start`, and the open subtrie those from `start` to i
pub record Scan (keys : List ℕ) (from start i used size : ℕ) : Type 0 where
  pub ordered : Asc keys
  pub begun : from ≤ start
  pub open_some : start < i
  pub within : i ≤ length keys
  pub used_is : used ≡ nodes_in (part from start keys)
  pub size_is : size ≡ nodes_in (part start i keys)
  pub one_root : length (heads 4 (part start i keys)) ≡ 1
  pub fits : used ≤ 240
  pub small : size ≤ 15
  pub parted : from < start → get_or keys (start - 1) 0 / 16 ≡ get_or keys start 0 / 16 → ⊥

nodes_empty : (keys : List ℕ) (a : ℕ) → nodes_in (part a a keys) ≡ 0
nodes_empty keys a = ap nodes_in (part_none keys a) ∙ nodes_none

-- the subtrie of a single prefix
module _ (keys : List ℕ) (a : ℕ) (asc : Asc keys) (lt : a < length keys) where
  single : (k : ℕ) → length (heads k (part a (a + 1) keys)) ≡ 1
  single k = ap (λ (l : List ℕ). length (heads k l)) (part_single keys a lt) ∙ heads_single k (get_or keys a 0)

  single-nodes : nodes_in (part a (a + 1) keys) ≡ 4
  single-nodes = omega (arith, nodes_are _ _ (part a (a + 1) keys) (run_of keys a (a + 1) asc (omega arith) (omega arith)), single 4, single 3, single 2, single 1)

pub scan_start : (keys : List ℕ) (from : ℕ) → Asc keys → from < length keys → Scan keys from from (from + 1) 0 4
scan_start keys from asc lt =
    record {
      ordered = asc;
      begun = omega arith;
      open_some = omega arith;
      within = omega arith;
      used_is = sym (nodes_empty keys from);
      size_is = sym (single-nodes keys from asc lt);
      one_root = single keys from asc lt 4;
      fits = omega arith;
      small = omega arith;
      parted = λ h. absurd (omega arith);
    }

module _ (keys : List ℕ) (from start i used size : ℕ) (s : Scan keys from start i used size) where
  open-run : Run (get_or keys start 0) (get_or keys (i - 1) 0) (part start i keys)
  open-run = run_of keys start i s.ordered s.open_some s.within

  -- a prefix of the open subtrie
  pub scan_same : i < length keys → get_or keys (i - 1) 0 / 16 ≡ get_or keys i 0 / 16 → Scan keys from start (i + 1) used (size + more_nodes (get_or keys (i - 1) 0) (get_or keys i 0))
  unfolding more_nodes
  scan_same lt same =
      let count = count_more keys s.ordered start i s.open_some lt in
      let r = run_of keys start (i + 1) s.ordered (omega (arith, s.open_some)) (omega arith) in
      let z = differ_same _ _ same in
      let one : length (heads 4 (part start (i + 1) keys)) ≡ 1 = omega (arith, count 4, s.one_root) in
      let is : size + more_nodes (get_or keys (i - 1) 0) (get_or keys i 0) ≡ nodes_in (part start (i + 1) keys) =
      omega (arith, s.size_is, nodes_are _ _ _ open-run, nodes_are _ _ _ r, count 4, count 3, count 2, count 1) in
      record {
        ordered = s.ordered;
        begun = s.begun;
        open_some = omega (arith, s.open_some);
        within = omega arith;
        used_is = s.used_is;
        size_is = is;
        one_root = one;
        fits = s.fits;
        small = omega (arith, is, one_small _ _ _ r one);
        parted = s.parted;
      }

  -- with nothing on the page yet
  alone : (from < start → ⊥) → (used ≡ 0) × (start ≡ from)
  alone h =
      let e : start ≡ from = omega (arith, s.begun) in
      (s.used_is ∙ ap (λ (j : ℕ). nodes_in (part from j keys)) e ∙ nodes_empty keys from, e)

  -- the nodes of the page with the open subtrie
  pub both_nodes : used + size ≡ nodes_in (part from i keys)
  both_nodes =
      elim (dec_lt from start) [
        | yes h ↦ let r = run_of keys from start s.ordered h (omega (arith, s.open_some, s.within)) in
            ap₂ ◌+◌ s.used_is s.size_is
            ∙ sym (ap nodes_in (part_join keys from start i s.begun (omega (arith, s.open_some))) ∙ nodes_join _ _ _ _ _ _ r open-run (s.parted h))
        | no h ↦ let a = alone h in
            let t : nodes_in (part start i keys) ≡ nodes_in (part from i keys) = ap (λ (j : ℕ). nodes_in (part j i keys)) a.1 in
            omega (arith, s.size_is, a.0)
      ]

  -- the open subtrie joins the page, and the next prefix opens another
  pub scan_next : i < length keys → (get_or keys (i - 1) 0 / 16 ≡ get_or keys i 0 / 16 → ⊥) → used + size ≤ 240 → Scan keys from i (i + 1) (used + size) 4
  scan_next lt apart le =
      record {
        ordered = s.ordered;
        begun = omega (arith, s.begun, s.open_some);
        open_some = omega arith;
        within = omega arith;
        used_is = both_nodes;
        size_is = sym (single-nodes keys i s.ordered lt);
        one_root = single keys i s.ordered lt 4;
        fits = le;
        small = omega arith;
        parted = λ h. apart;
      }

  -- the open subtrie starts a page
  pub scan_turns : Scan keys start start i 0 size
  scan_turns =
      record {
        ordered = s.ordered;
        begun = omega arith;
        open_some = s.open_some;
        within = s.within;
        used_is = sym (nodes_empty keys start);
        size_is = s.size_is;
        one_root = s.one_root;
        fits = omega arith;
        small = s.small;
        parted = λ h. absurd (omega arith);
      }

  -- the open subtrie is the first after the page
  first-open : (i < length keys → get_or keys (i - 1) 0 / 16 ≡ get_or keys i 0 / 16 → ⊥) → first_subtries 1 (band_above (drop start keys)) ≡ band_above (part start i keys)
  first-open apart =
      elim (dec_lt i (length keys)) [
        | yes h ↦ ap (λ (l : List ℕ). first_subtries 1 (band_above l)) (part_rest keys start i (omega (arith, s.open_some)))
            ∙ first_cut _ _ _ _ _ _ open-run (rest_run keys i s.ordered h) (apart h) s.one_root
        | no h ↦ ap (λ (l : List ℕ). first_subtries 1 (band_above l)) (sym (part_all keys start i (omega arith)))
            ∙ first_all 1 (band_above (part start i keys)) (one_shape _ _ _ open-run s.one_root)
      ]

  -- the page ends before the open subtrie, which has no place on it
  pub scan_ends : (i < length keys → get_or keys (i - 1) 0 / 16 ≡ get_or keys i 0 / 16 → ⊥) → 240 < used + size → PageAt keys from start used
  scan_ends apart full =
      let before : from < start = elim (dec_lt from start) [
        | yes h ↦ h
        | no h ↦ absurd (omega (arith, (alone h).0, s.small))
      ] in
      let r = run_of keys from start s.ordered before (omega (arith, s.open_some, s.within)) in
      let q = rest_run keys start s.ordered (omega (arith, s.open_some, s.within)) in
      let first : node_count 1 (first_subtries 1 (band_above (drop start keys))) ≡ size = ap (node_count 1) (first-open apart) ∙ one_count _ _ _ open-run s.one_root ∙ sym s.size_is in
      record {
        after = before;
        within = omega (arith, s.open_some, s.within);
        fits = s.fits;
        nodes_are = s.used_is;
        page = ap (λ (l : List ℕ). pages_of (band_above l)) (part_rest keys from start s.begun)
            ∙ pages_cut _ _ _ _ _ _ r q (s.parted before) (omega (arith, s.used_is, s.fits)) (omega (arith, s.used_is));
        apart = λ h. s.parted before;
      }

  -- the page ends with the last prefix
  pub scan_last : length keys ≤ i → used + size ≤ 240 → PageAt keys from i (used + size)
  scan_last end fits =
      let none_left : drop i keys ≡ [] = let e : i ≡ length keys = omega (arith, s.within) in ap (λ (j : ℕ). drop j keys) e ∙ drop-length keys in
      let r = run_of keys from i s.ordered (omega (arith, s.begun, s.open_some)) s.within in
      record {
        after = omega (arith, s.begun, s.open_some);
        within = s.within;
        fits = fits;
        nodes_are = both_nodes;
        page = ap (λ (l : List ℕ). pages_of (band_above l)) (sym (part_all keys from i end))
            ∙ pages_whole _ _ _ r (omega (arith, both_nodes))
            ∙ ap (band_above (part from i keys) ∷◌) (sym (ap (λ (l : List ℕ). pages_of (band_above l)) none_left ∙ no_pages));
        apart = λ h. absurd (omega arith);
      }
