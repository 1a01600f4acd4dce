-- The level above ascending prefixes, written from the last prefix to the first, and their parents in the last places.
-- Assumes nothing.
use mathlib.Core.Path.{◌≡◌, refl, sym, ap, ap₂, ◌∙◌, subst}
use mathlib.Core.List.{List, [], ◌∷◌, ◌++◌}
use Prim.Native.Nat.{ℕ, zero, suc, ◌+◌, ◌-◌, ◌/◌, ◌≤◌, ◌<◌}
use native.Mathlib.Omega.{arith}
use lib.ListN.{length, get_or, take, drop, set, replicate, take-append-drop, length-set, length-replicate}
use lib.Seq.{get_or-set_same, drop-cons, drop-set-lt, take-set-le, take-take, get_or-take, drop-length, set-get_or, drop-drop}
use Rattle.format.specs.Seq.{All}
use Rattle.format.specs.Trie.{parents, nodes_over, add_to_first, bit_of}
use Rattle.format.proofs.Lists.{all_append}
use Rattle.format.proofs.Trie.{Asc}
use Rattle.format.proofs.Shapes.{over}
use Rattle.format.proofs.Bytes.{nodes_small}
use Rattle.format.proofs.Members.{of_ascending}
use Rattle.page_writer.specs.Page.{nodes_of, with_nodes, bit_in, page_left, byte_left, LevelRoom, LevelDone}
use Rattle.packing.proofs.Runs.{asc_drop}
use Rattle.format.proofs.RunHeads.{some_nodes}
use Rattle.page_writer.proofs.Fronts.{nodes_same, nodes_other, parents_same, parents_other, less_nodes}
use Rattle.page_writer.proofs.Filling.{Held, with_own, held_on, held_left, held_small, length_left}

-- ---- the scan

-- after the prefixes from i on of q; `end` is the place after the level
pub record Scanned (page₀ q : List ℕ) (from end : ℕ) (page keys : List ℕ) (i y first node byte : ℕ) : Type 0 where
  pub given : LevelRoom page₀ q from end
  pub same_page : length page ≡ length page₀
  pub same_keys : length keys ≡ length q
  pub begun : from ≤ i
  pub some : i < length q
  pub last_read : y ≡ get_or q i 0
  pub behind : i ≤ first
  pub kept : take first keys ≡ take first q
  pub first_place : first + length (parents (drop i q)) ≡ length q
  pub lifted : drop first keys ≡ parents (drop i q)
  pub place : node + length (nodes_over (drop i q)) ≡ end
  pub node_room : node < 240
  pub held : Held page₀ page node byte (replicate node 0 ++ (nodes_over (drop i q) ++ drop end (nodes_of page₀)))

from-drop : (q : List ℕ) (from i : ℕ) → from ≤ i → Asc (drop from q) → Asc (drop i q)
from-drop q from i le a =
    let e : from + (i - from) ≡ i = omega arith in
    subst Asc (drop-drop (i - from) from q ∙ ap (λ (j : ℕ). drop j q) e) (asc_drop (i - from) (drop from q) a)

pub zeros_small : (n : ℕ) → All (λ m. m ≤ 3) (replicate n 0)
zeros_small zero = tt
zeros_small (suc n) = (omega arith, zeros_small n)

split_zeros : (n : ℕ) (l : List ℕ) → replicate n 0 ++ 0 ∷ l ≡ replicate (suc n) 0 ++ l
split_zeros zero l = refl
split_zeros (suc n) l = ap (0 ∷◌) (split_zeros n l)

pub nodes_few : (l : List ℕ) → Asc l → All (λ m. m ≤ 3) (nodes_over l)
nodes_few [] a = unfold nodes_over in tt
nodes_few (x ∷ l) a = nodes_small (nodes_over (x ∷ l)) (over x l a).nodes

level_small : (l rest : List ℕ) (n : ℕ) → Asc l → All (λ m. m ≤ 3) rest → All (λ m. m ≤ 3) (replicate n 0 ++ (nodes_over l ++ rest))
level_small l rest n a s = all_append (λ m. m ≤ 3) (replicate n 0) (nodes_over l ++ rest) (zeros_small n) (all_append (λ m. m ≤ 3) (nodes_over l) rest (nodes_few l a) s)

drop-set : (l : List ℕ) (j v : ℕ) → j < length l → drop j (set l j v) ≡ v ∷ drop (suc j) l
drop-set l j v h =
    drop-cons (set l j v) j 0 (omega (arith, length-set l j v))
    ∙ ap₂ ◌∷◌ (get_or-set_same l j v 0 h) (drop-set-lt (suc j) l j v (omega arith))

-- what is as it was before a place is so before an earlier one
pub less_kept : (l m : List ℕ) (n k : ℕ) → k ≤ n → take n l ≡ take n m → take k l ≡ take k m
less_kept l m n k le e = sym (take-take k n l le) ∙ ap (take k) e ∙ take-take k n m le

-- the current node of a page, once its bit is on
module _ (page₀ q page : List ℕ) (from end i node byte : ℕ) (g : LevelRoom page₀ q from end) (lo : from ≤ i) (same : length page ≡ length page₀) (lt : node < 240)
    (h : Held page₀ page node byte (replicate node 0 ++ (nodes_over (drop i q) ++ drop end (nodes_of page₀)))) where
  bit_small : byte < 256
  bit_small = held_small page₀ page node byte g.room same lt _ h (level_small (drop i q) (drop end (nodes_of page₀)) node (from-drop q from i lo (of_ascending (drop from q) g.ordered)) g.small)

-- ---- the start

module _ (page q : List ℕ) (from end : ℕ) (g : LevelRoom page q from end) where
  last_one : drop (length q - 1) q ≡ get_or q (length q - 1) 0 ∷ []
  last_one =
      let e : suc (length q - 1) ≡ length q = omega (arith, g.some) in
      drop-cons q (length q - 1) 0 (omega (arith, g.some)) ∙ ap (get_or q (length q - 1) 0 ∷◌) (ap (λ (j : ℕ). drop j q) e ∙ drop-length q)

  last-node : nodes_over (drop (length q - 1) q) ≡ bit_of (get_or q (length q - 1) 0) ∷ []
  last-node = ap nodes_over last_one ∙ (unfold nodes_over in refl)

  last-parent : parents (drop (length q - 1) q) ≡ get_or q (length q - 1) 0 / 2 ∷ []
  last-parent = ap parents last_one ∙ (unfold parents in refl)

  pub end_some : 1 ≤ end
  end_some =
      let e : from + (length q - 1 - from) ≡ length q - 1 = omega (arith, g.some) in
      let d = ap (λ (l : List ℕ). length (nodes_over l)) (drop-drop (length q - 1 - from) from q ∙ ap (λ (j : ℕ). drop j q) e) in
      omega (arith, less_nodes (length q - 1 - from) (drop from q), d, ap length last-node, g.fits)

  empty-held : Held page page (end - 1) (get_or page (4 + (end - 1) / 4) 0) (replicate (end - 1) 0 ++ 0 ∷ drop end (nodes_of page))
  empty-held =
      let e : suc (end - 1) ≡ end = omega (arith, end_some) in
      set-get_or page (4 + (end - 1) / 4) 0
      ∙ sym (with_own page g.room)
      ∙ ap (with_nodes page) (sym (take-append-drop end (nodes_of page)) ∙ ap (◌++ drop end (nodes_of page)) (g.empty ∙ ap (λ (n : ℕ). replicate n 0) (sym e)) ∙ sym (split_zeros (end - 1) (drop end (nodes_of page))))

  start-held : Held page page (end - 1) (get_or page (4 + (end - 1) / 4) 0 + bit_in (end - 1) (get_or q (length q - 1) 0)) (replicate (end - 1) 0 ++ (nodes_over (drop (length q - 1) q) ++ drop end (nodes_of page)))
  start-held =
      let z : bit_of (get_or q (length q - 1) 0) + 0 ≡ bit_of (get_or q (length q - 1) 0) = omega arith in
      held_on page page (end - 1) (get_or page (4 + (end - 1) / 4) 0) g.room refl (omega (arith, g.within, end_some)) (replicate (end - 1) 0) 0 (get_or q (length q - 1) 0) (drop end (nodes_of page)) (length-replicate {A = ℕ} (end - 1) 0) empty-held
      ∙ ap (λ (n : ℕ). with_nodes page (replicate (end - 1) 0 ++ n ∷ drop end (nodes_of page))) z
      ∙ ap (λ (l : List ℕ). with_nodes page (replicate (end - 1) 0 ++ (l ++ drop end (nodes_of page)))) (sym last-node)

  pub start_small : get_or page (4 + (end - 1) / 4) 0 + bit_in (end - 1) (get_or q (length q - 1) 0) < 256
  start_small = bit_small page q page from end (length q - 1) (end - 1) _ g (omega (arith, g.some)) refl (omega (arith, g.within, end_some)) start-held

  pub scanned_start : Scanned page q from end page (set q (length q - 1) (get_or q (length q - 1) 0 / 2)) (length q - 1) (get_or q (length q - 1) 0) (length q - 1) (end - 1)
      (get_or page (4 + (end - 1) / 4) 0 + bit_in (end - 1) (get_or q (length q - 1) 0))
  scanned_start =
      let e : suc (length q - 1) ≡ length q = omega (arith, g.some) in
      record {
        given = g;
        same_page = refl;
        same_keys = length-set q (length q - 1) (get_or q (length q - 1) 0 / 2);
        begun = omega (arith, g.some);
        some = omega (arith, g.some);
        last_read = refl;
        behind = omega arith;
        kept = take-set-le (length q - 1) q (length q - 1) (get_or q (length q - 1) 0 / 2) (omega arith);
        first_place = omega (arith, ap length last-parent, g.some);
        lifted = drop-set q (length q - 1) (get_or q (length q - 1) 0 / 2) (omega (arith, g.some)) ∙ ap (get_or q (length q - 1) 0 / 2 ∷◌) (ap (λ (j : ℕ). drop j q) e ∙ drop-length q) ∙ sym last-parent;
        place = omega (arith, ap length last-node, end_some);
        node_room = omega (arith, g.within, end_some);
        held = start-held;
      }

-- ---- a prefix

module _ (page₀ q : List ℕ) (from end : ℕ) (page keys : List ℕ) (i y first node byte : ℕ) (s : Scanned page₀ q from end page keys i y first node byte) (more : from < i) where
  x-is : get_or keys (i - 1) 0 ≡ get_or q (i - 1) 0
  x-is = sym (get_or-take first keys (i - 1) 0 (omega (arith, s.behind))) ∙ ap (λ (l : List ℕ). get_or l (i - 1) 0) s.kept ∙ get_or-take first q (i - 1) 0 (omega (arith, s.behind))

  read-rest : drop i q ≡ y ∷ drop (suc i) q
  read-rest = drop-cons q i 0 s.some ∙ ap (◌∷ drop (suc i) q) (sym s.last_read)

  read_more : drop (i - 1) q ≡ get_or keys (i - 1) 0 ∷ y ∷ drop (suc i) q
  read_more =
      let e : suc (i - 1) ≡ i = omega arith in
      drop-cons q (i - 1) 0 (omega (arith, s.some)) ∙ ap₂ ◌∷◌ (sym x-is) (ap (λ (j : ℕ). drop j q) e ∙ read-rest)

  -- the prefix is below the one after it
  pub read_above : get_or keys (i - 1) 0 < y
  read_above = (rw read_more at (from-drop q from (i - 1) (omega arith) (of_ascending (drop from q) s.given.ordered))).0

  -- with the parent of the one after it
  module _ (same : get_or keys (i - 1) 0 / 2 ≡ y / 2) where
    same-level : nodes_over (drop (i - 1) q) ≡ add_to_first (bit_of (get_or keys (i - 1) 0)) (nodes_over (drop i q))
    same-level = ap nodes_over read_more ∙ nodes_same (get_or keys (i - 1) 0) y (drop (suc i) q) same ∙ ap (λ (l : List ℕ). add_to_first (bit_of (get_or keys (i - 1) 0)) (nodes_over l)) (sym read-rest)

    same-parents : parents (drop (i - 1) q) ≡ parents (drop i q)
    same-parents = ap parents read_more ∙ parents_same (get_or keys (i - 1) 0) y (drop (suc i) q) same ∙ ap parents (sym read-rest)

    same-held : Held page₀ page node (byte + bit_in node (get_or keys (i - 1) 0)) (replicate node 0 ++ (nodes_over (drop (i - 1) q) ++ drop end (nodes_of page₀)))
    unfolding add_to_first
    same-held = go (nodes_over (drop i q)) s.held same-level some_of
      where
        some_of : 1 ≤ length (nodes_over (drop i q))
        some_of = rw read-rest (some_nodes y (drop (suc i) q))

        go : (ns : List ℕ) → Held page₀ page node byte (replicate node 0 ++ (ns ++ drop end (nodes_of page₀))) → nodes_over (drop (i - 1) q) ≡ add_to_first (bit_of (get_or keys (i - 1) 0)) ns → 1 ≤ length ns
            → Held page₀ page node (byte + bit_in node (get_or keys (i - 1) 0)) (replicate node 0 ++ (nodes_over (drop (i - 1) q) ++ drop end (nodes_of page₀)))
        go [] h e k = absurd (omega arith)
        go (n ∷ ns) h e k =
            held_on page₀ page node byte s.given.room s.same_page s.node_room (replicate node 0) n (get_or keys (i - 1) 0) (ns ++ drop end (nodes_of page₀)) (length-replicate {A = ℕ} node 0) h
            ∙ ap (λ (l : List ℕ). with_nodes page₀ (replicate node 0 ++ (l ++ drop end (nodes_of page₀)))) (sym e)

    pub same_small : byte + bit_in node (get_or keys (i - 1) 0) < 256
    same_small = bit_small page₀ q page from end (i - 1) node _ s.given (omega arith) s.same_page s.node_room same-held

    pub scanned_same : Scanned page₀ q from end page keys (i - 1) (get_or keys (i - 1) 0) first node (byte + bit_in node (get_or keys (i - 1) 0))
    scanned_same =
        record {
          given = s.given;
          same_page = s.same_page;
          same_keys = s.same_keys;
          begun = omega arith;
          some = omega (arith, s.some);
          last_read = x-is;
          behind = omega (arith, s.behind);
          kept = s.kept;
          first_place = ap (λ (l : List ℕ). first + length l) same-parents ∙ s.first_place;
          lifted = s.lifted ∙ sym same-parents;
          place = ap (λ (l : List ℕ). node + length l) same-level ∙ kept (nodes_over (drop i q)) ∙ s.place;
          node_room = s.node_room;
          held = same-held;
        }
      where
        kept : (ns : List ℕ) → node + length (add_to_first (bit_of (get_or keys (i - 1) 0)) ns) ≡ node + length ns
        kept [] = unfold add_to_first in refl
        kept (n ∷ ns) = unfold add_to_first in refl

  -- with another parent
  module _ (other : get_or keys (i - 1) 0 / 2 ≡ y / 2 → ⊥) where
    other-level : nodes_over (drop (i - 1) q) ≡ bit_of (get_or keys (i - 1) 0) ∷ nodes_over (drop i q)
    other-level = ap nodes_over read_more ∙ nodes_other (get_or keys (i - 1) 0) y (drop (suc i) q) other ∙ ap (λ (l : List ℕ). bit_of (get_or keys (i - 1) 0) ∷ nodes_over l) (sym read-rest)

    other-parents : parents (drop (i - 1) q) ≡ get_or keys (i - 1) 0 / 2 ∷ parents (drop i q)
    other-parents = ap parents read_more ∙ parents_other (get_or keys (i - 1) 0) y (drop (suc i) q) other ∙ ap (λ (l : List ℕ). get_or keys (i - 1) 0 / 2 ∷ parents l) (sym read-rest)

    -- there is a node before
    pub node_some : 1 ≤ node
    node_some =
        let e : from + (i - 1 - from) ≡ i - 1 = omega arith in
        let d = ap (λ (l : List ℕ). length (nodes_over l)) (drop-drop (i - 1 - from) from q ∙ ap (λ (j : ℕ). drop j q) e) in
        omega (arith, less_nodes (i - 1 - from) (drop from q), d, ap length other-level, s.given.fits, s.place)

    pub first_some : (1 ≤ first) × (first ≤ length keys)
    first_some = (omega (arith, s.behind), omega (arith, s.first_place, s.same_keys))

    other-held : Held page₀ (page_left page node byte) (node - 1) (byte_left node byte + bit_in (node - 1) (get_or keys (i - 1) 0)) (replicate (node - 1) 0 ++ (nodes_over (drop (i - 1) q) ++ drop end (nodes_of page₀)))
    other-held = go (node - 1) (omega (arith, node_some)) s.held s.place
      where
        go : (n : ℕ) → node ≡ suc n → Held page₀ page node byte (replicate node 0 ++ (nodes_over (drop i q) ++ drop end (nodes_of page₀))) → node + length (nodes_over (drop i q)) ≡ end
            → Held page₀ (page_left page node byte) n (byte_left node byte + bit_in n (get_or keys (i - 1) 0)) (replicate n 0 ++ (nodes_over (drop (i - 1) q) ++ drop end (nodes_of page₀)))
        go n e h p =
            let rest = nodes_over (drop i q) ++ drop end (nodes_of page₀) in
            let z : bit_of (get_or keys (i - 1) 0) + 0 ≡ bit_of (get_or keys (i - 1) 0) = omega arith in
            let l : Held page₀ (page_left page (suc n) byte) n (byte_left (suc n) byte) (replicate (suc n) 0 ++ rest) =
            held_left page₀ page n byte s.given.room s.same_page (omega (arith, s.node_room)) rest (rw e at h) in
            rw e
            (held_on page₀ (page_left page (suc n) byte) n (byte_left (suc n) byte) s.given.room (length_left page (suc n) byte ∙ s.same_page) (omega (arith, s.node_room)) (replicate n 0) 0 (get_or keys (i - 1) 0) rest (length-replicate {A = ℕ} n 0) (l ∙ ap (with_nodes page₀) (sym (split_zeros n rest)))
            ∙ ap (λ (b : ℕ). with_nodes page₀ (replicate n 0 ++ b ∷ rest)) z
            ∙ ap (λ (m : List ℕ). with_nodes page₀ (replicate n 0 ++ (m ++ drop end (nodes_of page₀)))) (sym other-level))

    pub other_small : byte_left node byte + bit_in (node - 1) (get_or keys (i - 1) 0) < 256
    other_small = bit_small page₀ q (page_left page node byte) from end (i - 1) (node - 1) _ s.given (omega arith) (length_left page node byte ∙ s.same_page) (omega (arith, s.node_room)) other-held

    pub scanned_other : Scanned page₀ q from end (page_left page node byte) (set keys (first - 1) (get_or keys (i - 1) 0 / 2)) (i - 1) (get_or keys (i - 1) 0) (first - 1) (node - 1)
        (byte_left node byte + bit_in (node - 1) (get_or keys (i - 1) 0))
    scanned_other =
        let e : suc (first - 1) ≡ first = omega (arith, first_some) in
        record {
          given = s.given;
          same_page = length_left page node byte ∙ s.same_page;
          same_keys = length-set keys (first - 1) (get_or keys (i - 1) 0 / 2) ∙ s.same_keys;
          begun = omega arith;
          some = omega (arith, s.some);
          last_read = x-is;
          behind = omega (arith, s.behind);
          kept = take-set-le (first - 1) keys (first - 1) (get_or keys (i - 1) 0 / 2) (omega arith) ∙ less_kept keys q first (first - 1) (omega arith) s.kept;
          first_place = omega (arith, ap length other-parents, s.first_place, first_some);
          lifted = drop-set keys (first - 1) (get_or keys (i - 1) 0 / 2) (omega (arith, first_some)) ∙ ap (get_or keys (i - 1) 0 / 2 ∷◌) (ap (λ (j : ℕ). drop j keys) e ∙ s.lifted) ∙ sym other-parents;
          place = omega (arith, ap length other-level, s.place, node_some);
          node_room = omega (arith, s.node_room);
          held = other-held;
        }

-- ---- the end

pub scanned_end : (page₀ p q : List ℕ) (from end : ℕ) (page keys : List ℕ) (i y first node byte : ℕ) → p ≡ q → Scanned page₀ p from end page keys i y first node byte → i ≤ from
    → LevelDone page₀ q from end (set page (4 + node / 4) byte) keys (record { first = first; node = node })
scanned_end page₀ p q from end page keys i y first node byte same s last =
    let e : i ≡ from = omega (arith, s.begun) in
    subst (λ (l : List ℕ). LevelDone page₀ l from end (set page (4 + node / 4) byte) keys (record { first = first; node = node })) same
    (record {
      place = rw (← e) s.place;
      first_is = rw (← e) s.first_place;
      kept = s.kept;
      bytes = s.held ∙ ap (λ (j : ℕ). with_nodes page₀ (replicate node 0 ++ (nodes_over (drop j p) ++ drop end (nodes_of page₀)))) e;
      lifted = s.lifted ∙ ap (λ (j : ℕ). parents (drop j p)) e;
    })
