-- The scan that counts a band's pages and roots, and puts the prefixes of the roots in the place of those that it has read.
-- Assumes nothing.
use mathlib.Core.Path.{◌≡◌, refl, sym, ap, ◌∙◌, subst}
use mathlib.Core.List.{List, [], ◌∷◌, ◌++◌}
use Prim.Native.Nat.{ℕ, ◌+◌, ◌-◌, ◌/◌, ◌≤◌, ◌<◌}
use native.Mathlib.Numerals.{add-one}
use native.Mathlib.Omega.{arith}
use native.Mathlib.Decide.{dec_le}
use borrow.Author.Tests.{le-leb, lt-leb}
use lib.ListN.{length, get_or, take, drop, set, length-set, length-append}
use lib.Seq.{take-suc-set, drop-set-lt, drop-drop, drop-length, get_or-drop}
use Rattle.format.specs.Trie.{parents, nodes_over}
use Rattle.format.specs.Writer.{pages_of, roots_in}
use Rattle.format.proofs.Members.{of_ascending}
use Rattle.format.proofs.RunHeads.{heads}
use Rattle.format.proofs.Runs.{heads_same, band_over}
use Rattle.packing.specs.declared.Packing.{Packing}
use Rattle.packing.specs.Run.{Prefixes, BandCounted, band_above, roots_above, more_nodes, joined}
use Rattle.packing.proofs.Runs.{Run, run_of, part, part_more, part_single, part_all, next_above}
use Rattle.packing.proofs.Bands.{band_is, no_pages, roots_are, roots_is, roots_join}
use Rattle.packing.proofs.Scan.{Scan, scan_start, scan_same, scan_next, scan_turns, scan_ends, scan_last}

-- after the first i of the prefixes q
pub record Counting (q keys : List ℕ) (x roots : ℕ) (packing : Packing) (size i : ℕ) : Type 0 where
  pub from : ℕ
  pub start : ℕ
  pub scan : Scan q from start i packing.used size
  pub pages_are : packing.pages + length (pages_of (band_above (drop from q))) ≡ length (pages_of (band_above q)) + 1
  pub pages_few : packing.pages ≤ from + 1
  pub last_read : x ≡ get_or q (i - 1) 0
  pub few : length q ≤ 4096
  pub same_length : length keys ≡ length q
  pub roots_few : roots ≤ i
  pub kept : drop roots keys ≡ drop roots q
  pub roots_count : roots ≡ length (heads 4 (part 0 i q))
  pub lifted : take roots keys ≡ heads 4 (part 0 i q)

heads_one : (y : ℕ) → heads 4 (y ∷ []) ≡ y / 16 ∷ []
unfolding heads parents
heads_one y = let e : y / 2 / 2 / 2 / 2 ≡ y / 16 = omega arith in ap (◌∷ []) e

pub joined_fits : (p : Packing) (size : ℕ) → p.used + size ≤ 240 → joined p size ≡ record { pages = p.pages; used = p.used + size }
unfolding joined
joined_fits p size h = rw (le-leb (p.used + size) 240 h)

pub joined_full : (p : Packing) (size : ℕ) → 240 < p.used + size → joined p size ≡ record { pages = p.pages + 1; used = size }
unfolding joined
joined_full p size h = rw (lt-leb (p.used + size) 240 h)

-- a subtrie more starts at most one page
pub joined_more : (p : Packing) (size : ℕ) → (joined p size).pages ≤ p.pages + 1
joined_more p size = elim (dec_le (p.used + size) 240) [
  | yes h ↦ rw (joined_fits p size h) (omega arith)
  | no h ↦ rw (joined_full p size (omega arith)) (omega arith)
]

pub count_start : (q : List ℕ) → Prefixes q → 0 < length q → Counting q (set q 0 (get_or q 0 0 / 16)) (get_or q 0 0) 1 (record { pages = 1; used = 0 }) 4 1
count_start q p some =
    let first : heads 4 (part 0 1 q) ≡ get_or q 0 0 / 16 ∷ [] = ap (heads 4) (part_single q 0 some) ∙ heads_one (get_or q 0 0) in
    record {
      from = 0;
      start = 0;
      scan = scan_start q 0 (of_ascending q p.ordered) some;
      pages_are = omega arith;
      pages_few = omega arith;
      last_read = refl;
      few = p.few;
      same_length = length-set q 0 (get_or q 0 0 / 16);
      roots_few = omega arith;
      kept = drop-set-lt 1 q 0 (get_or q 0 0 / 16) (omega arith);
      roots_count = sym (ap length first);
      lifted = take-suc-set q 0 (get_or q 0 0 / 16) some ∙ sym first;
    }

module _ (q keys : List ℕ) (x roots : ℕ) (packing : Packing) (size i : ℕ) (c : Counting q keys x roots packing size i) (more : i < length keys) where
  lt : i < length q
  lt = omega (arith, c.same_length)

  unread : drop i keys ≡ drop i q
  unread =
      let e : roots + (i - roots) ≡ i = omega (arith, c.roots_few) in
      ap (λ (j : ℕ). drop j keys) (sym e) ∙ sym (drop-drop (i - roots) roots keys) ∙ ap (drop (i - roots)) c.kept ∙ drop-drop (i - roots) roots q ∙ ap (λ (j : ℕ). drop j q) e

  -- the prefix that is read
  pub read_is : get_or keys i 0 ≡ get_or q i 0
  read_is =
      let z : i + 0 ≡ i = omega arith in
      ap (λ (j : ℕ). get_or keys j 0) (sym z) ∙ sym (get_or-drop i keys 0 0) ∙ ap (λ (l : List ℕ). get_or l 0 0) unread ∙ get_or-drop i q 0 0 ∙ ap (λ (j : ℕ). get_or q j 0) z

  drop_more : drop (roots + 1) keys ≡ drop (roots + 1) q
  drop_more = sym (drop-drop 1 roots keys) ∙ ap (drop 1) c.kept ∙ drop-drop 1 roots q

  run-read : Run (get_or q 0 0) (get_or q (i - 1) 0) (part 0 i q)
  run-read = run_of q 0 i c.scan.ordered (omega (arith, c.scan.open_some)) (omega arith)

  module _ (same : x / 16 ≡ get_or keys i 0 / 16) where
    in-open : get_or q (i - 1) 0 / 16 ≡ get_or q i 0 / 16
    in-open = ap (◌/ 16) (sym c.last_read) ∙ same ∙ ap (◌/ 16) read_is

    same-heads : heads 4 (part 0 (i + 1) q) ≡ heads 4 (part 0 i q)
    same-heads =
        let r = run-read in
        let above : get_or q (i - 1) 0 < get_or q i 0 = next_above q i c.scan.ordered (omega (arith, c.scan.open_some)) lt in
        ap (heads 4) (part_more q 0 i (omega arith) lt)
        ∙ rw r.is (heads_same 4 (get_or q 0 0) r.rest (get_or q i 0) r.above (rw r.end above) (rw r.end in-open))

    pub count_same : Counting q keys (get_or keys i 0) roots packing (size + more_nodes x (get_or keys i 0)) (i + 1)
    count_same =
        let e : i + 1 - 1 ≡ i = omega arith in
        record {
          from = c.from;
          start = c.start;
          scan = rw (c.last_read, read_is) (scan_same q c.from c.start i packing.used size c.scan lt in-open);
          pages_are = c.pages_are;
          pages_few = c.pages_few;
          last_read = read_is ∙ ap (λ (j : ℕ). get_or q j 0) (sym e);
          few = c.few;
          same_length = c.same_length;
          roots_few = omega (arith, c.roots_few);
          kept = c.kept;
          roots_count = c.roots_count ∙ ap length (sym same-heads);
          lifted = c.lifted ∙ sym same-heads;
        }

  module _ (other : x / 16 ≡ get_or keys i 0 / 16 → ⊥) where
    apart : get_or q (i - 1) 0 / 16 ≡ get_or q i 0 / 16 → ⊥
    apart e = other (ap (◌/ 16) c.last_read ∙ e ∙ ap (◌/ 16) (sym read_is))

    more-heads : heads 4 (part 0 (i + 1) q) ≡ heads 4 (part 0 i q) ++ get_or q i 0 / 16 ∷ []
    more-heads =
        let one : Run (get_or q i 0) (get_or q i 0) (get_or q i 0 ∷ []) = record { rest = []; is = refl; above = tt; end = refl } in
        ap (heads 4) (part_more q 0 i (omega arith) lt)
        ∙ roots_join _ _ _ _ (part 0 i q) (get_or q i 0 ∷ []) run-read one apart
        ∙ ap (heads 4 (part 0 i q) ++◌) (heads_one (get_or q i 0))

    -- the packing goes on
    record Packed : Type 0 where
      from : ℕ
      scan : Scan q from i (i + 1) (joined packing size).used 4
      pages_are : (joined packing size).pages + length (pages_of (band_above (drop from q))) ≡ length (pages_of (band_above q)) + 1
      pages_few : (joined packing size).pages ≤ from + 1

    packed : Packed
    packed =
        elim (dec_le (packing.used + size) 240) [
          | yes h ↦ let e = joined_fits packing size h in
              record {
                from = c.from;
                scan = rw e (scan_next q c.from c.start i packing.used size c.scan lt apart h);
                pages_are = rw e c.pages_are;
                pages_few = rw e c.pages_few;
              }
          | no h ↦ let e = joined_full packing size (omega arith) in
              let p = scan_ends q c.from c.start i packing.used size c.scan (λ _. apart) (omega arith) in
              let n = ap length p.page in
              let s = scan_next q c.start c.start i 0 size (scan_turns q c.from c.start i packing.used size c.scan) lt apart (omega (arith, c.scan.small)) in
              let z : 0 + size ≡ size = omega arith in
              record {
                from = c.start;
                scan = rw e (subst (λ (u : ℕ). Scan q c.start i (i + 1) u 4) z s);
                pages_are = rw e (omega (arith, n, c.pages_are));
                pages_few = rw e (omega (arith, c.pages_few, p.after));
              }
        ]

    pub count_next : Counting q (set keys roots (get_or keys i 0 / 16)) (get_or keys i 0) (roots + 1) (joined packing size) 4 (i + 1)
    count_next =
        let e : i + 1 - 1 ≡ i = omega arith in
        let p = packed in
        record {
          from = p.from;
          start = i;
          scan = p.scan;
          pages_are = p.pages_are;
          pages_few = p.pages_few;
          last_read = read_is ∙ ap (λ (j : ℕ). get_or q j 0) (sym e);
          few = c.few;
          same_length = length-set keys roots (get_or keys i 0 / 16) ∙ c.same_length;
          roots_few = omega (arith, c.roots_few);
          kept = drop-set-lt (roots + 1) keys roots (get_or keys i 0 / 16) (omega arith) ∙ drop_more;
          roots_count = let n = ap length more-heads in omega (arith, n, length-append (heads 4 (part 0 i q)) (get_or q i 0 / 16 ∷ []), c.roots_count);
          lifted = ap (λ (n : ℕ). take n (set keys roots (get_or keys i 0 / 16))) (add-one roots)
              ∙ take-suc-set keys roots (get_or keys i 0 / 16) (omega (arith, c.roots_few, c.same_length))
              ∙ ap (◌++ get_or keys i 0 / 16 ∷ []) c.lifted
              ∙ ap (λ (y : ℕ). heads 4 (part 0 i q) ++ y / 16 ∷ []) read_is
              ∙ sym more-heads;
        }

-- after the last prefix
module _ (q keys : List ℕ) (x roots : ℕ) (packing : Packing) (size i : ℕ) (c : Counting q keys x roots packing size i) (end : length keys ≤ i) where
  all_read : part 0 i q ≡ q
  all_read = part_all q 0 i (omega (arith, c.same_length))

  count-end : BandCounted q (record { pages = (joined packing size).pages; roots = roots }) keys
  count-end =
      let r = rw all_read at (run_of q 0 i c.scan.ordered (omega (arith, c.scan.open_some)) c.scan.within) in
      record {
        pages_are = pages_end;
        roots_are = c.roots_count ∙ ap (λ (l : List ℕ). length (heads 4 l)) all_read ∙ sym (roots_are _ _ q r);
        roots_few = omega (arith, c.roots_few, c.scan.within);
        lifted = c.lifted ∙ ap (heads 4) all_read ∙ sym (roots_is q);
        kept = c.kept;
      }
    where
      none_left : length (pages_of (band_above (drop i q))) ≡ 0
      none_left = let e : i ≡ length q = omega (arith, c.scan.within, c.same_length) in ap (λ (l : List ℕ). length (pages_of (band_above l))) (ap (λ (j : ℕ). drop j q) e ∙ drop-length q) ∙ ap length no_pages

      pages_end : (joined packing size).pages ≡ length (pages_of (band_above q))
      pages_end =
          elim (dec_le (packing.used + size) 240) [
            | yes h ↦ let p = scan_last q c.from c.start i packing.used size c.scan (omega (arith, c.same_length)) h in
                let n = ap length p.page in
                rw (joined_fits packing size h) (omega (arith, n, none_left, c.pages_are))
            | no h ↦ let p = scan_ends q c.from c.start i packing.used size c.scan (λ h. absurd (omega (arith, c.same_length))) (omega arith) in
                let s = scan_turns q c.from c.start i packing.used size c.scan in
                let r = scan_last q c.start c.start i 0 size s (omega (arith, c.same_length)) (omega (arith, c.scan.small)) in
                let n = ap length p.page in
                let m = ap length r.page in
                rw (joined_full packing size (omega arith)) (omega (arith, n, m, none_left, c.pages_are))
          ]

-- without a prefix
pub count_none : (q : List ℕ) → length q ≡ 0 → BandCounted q (record { pages = 0; roots = 0 }) q
unfolding roots_above parents roots_in
count_none [] e =
    record {
      pages_are = sym (ap length no_pages);
      roots_are = sym (ap roots_in (band_is []) ∙ (unfold band_over heads nodes_over in refl));
      roots_few = omega arith;
      lifted = refl;
      kept = refl;
    }
count_none (x ∷ q) e = absurd (omega arith)

pub count-done : (p q keys : List ℕ) (x roots : ℕ) (packing last : Packing) (size i : ℕ) → p ≡ q → Counting p keys x roots packing size i → length keys ≤ i → last ≡ joined packing size
    → BandCounted q (record { pages = last.pages; roots = roots }) keys
count-done p q keys x roots packing last size i e c end is = rw (← e, is) (count-end p keys x roots packing size i c end)
