-- The parent and the bit of the last prefix, kept while a level is filled in: the prefix before an odd one with the same parent has twice its bit.
-- Assumes nothing.
use mathlib.Core.Path.{◌≡◌, refl, sym, ap, ◌∙◌, subst}
use mathlib.Core.List.{List}
use Prim.Native.Nat.{ℕ, ◌+◌, ◌-◌, ◌*◌, ◌/◌, ◌%◌, ◌^◌, ◌<◌}
use native.Mathlib.Omega.{arith}
use lib.ListN.{length, get_or, set}
use Rattle.format.specs.Trie.{bit_of}
use Rattle.page_writer.specs.Page.{bit_in, page_left, byte_left, LevelRoom}
use Rattle.page_writer.proofs.Levels.{Scanned, read_above, same_small, scanned_start, scanned_same, scanned_other}

-- the scan of `Levels`, the parent of the last prefix, and its bit where it is odd
pub record Marked (page₀ q : List ℕ) (from end : ℕ) (page keys : List ℕ) (i parent first node bit byte : ℕ) : Type 0 where
  pub scanned : Scanned page₀ q from end page keys i (get_or q i 0) first node byte
  pub parent_is : parent ≡ get_or q i 0 / 2
  pub bit_is : get_or q i 0 % 2 ≡ 1 → bit ≡ bit_in node (get_or q i 0)

pub marked_start : (page q : List ℕ) (from end : ℕ) → LevelRoom page q from end
    → Marked page q from end page (set q (length q - 1) (get_or q (length q - 1) 0 / 2)) (length q - 1) (get_or q (length q - 1) 0 / 2) (length q - 1) (end - 1) (bit_in (end - 1) (get_or q (length q - 1) 0)) (get_or page (4 + (end - 1) / 4) 0 + bit_in (end - 1) (get_or q (length q - 1) 0))
marked_start page q from end g = record { scanned = scanned_start page q from end g; parent_is = refl; bit_is = λ odd. refl }

module _ (page₀ q : List ℕ) (from end : ℕ) (page keys : List ℕ) (i parent first node bit byte : ℕ) (m : Marked page₀ q from end page keys i parent first node bit byte) (more : from < i) where
  module _ (same : get_or keys (i - 1) 0 / 2 ≡ parent) where
    same-parent : get_or keys (i - 1) 0 / 2 ≡ get_or q i 0 / 2
    same-parent = same ∙ m.parent_is

    above : get_or keys (i - 1) 0 < get_or q i 0
    above = read_above page₀ q from end page keys i (get_or q i 0) first node byte m.scanned more

    twice : 2 * bit ≡ bit_in node (get_or keys (i - 1) 0)
    unfolding bit_in bit_of
    twice =
        let odd : bit_of (get_or q i 0) ≡ 1 = omega (arith, above, same-parent) in
        let even : bit_of (get_or keys (i - 1) 0) ≡ 2 = omega (arith, above, same-parent) in
        let b = m.bit_is (omega (arith, above, same-parent)) in
        omega (arith, b, ap (◌* 4 ^ (3 - node % 4)) odd, ap (◌* 4 ^ (3 - node % 4)) even)

    pub twice_small : byte + 2 * bit < 256
    twice_small = rw twice (same_small page₀ q from end page keys i (get_or q i 0) first node byte m.scanned more same-parent)

    pub marked_same : Marked page₀ q from end page keys (i - 1) parent first node bit (byte + 2 * bit)
    marked_same =
        let s = scanned_same page₀ q from end page keys i (get_or q i 0) first node byte m.scanned more same-parent in
        let e : get_or keys (i - 1) 0 ≡ get_or q (i - 1) 0 = s.last_read in
        record {
          scanned = rw twice (subst (λ (x : ℕ). Scanned page₀ q from end page keys (i - 1) x first node (byte + bit_in node (get_or keys (i - 1) 0))) e s);
          parent_is = sym same ∙ ap (◌/ 2) e;
          bit_is = λ odd. absurd (omega (arith, above, same-parent, e));
        }

  pub other_parent : (get_or keys (i - 1) 0 / 2 ≡ parent → ⊥) → get_or keys (i - 1) 0 / 2 ≡ get_or q i 0 / 2 → ⊥
  other_parent other e = other (e ∙ sym m.parent_is)

  pub marked_other : (get_or keys (i - 1) 0 / 2 ≡ parent → ⊥)
      → Marked page₀ q from end (page_left page node byte) (set keys (first - 1) (get_or keys (i - 1) 0 / 2)) (i - 1) (get_or keys (i - 1) 0 / 2) (first - 1) (node - 1) (bit_in (node - 1) (get_or keys (i - 1) 0)) (byte_left node byte + bit_in (node - 1) (get_or keys (i - 1) 0))
  marked_other other =
      let s = scanned_other page₀ q from end page keys i (get_or q i 0) first node byte m.scanned more (other_parent other) in
      let e : get_or keys (i - 1) 0 ≡ get_or q (i - 1) 0 = s.last_read in
      record {
        scanned = subst (λ (x : ℕ). Scanned page₀ q from end (page_left page node byte) (set keys (first - 1) (get_or keys (i - 1) 0 / 2)) (i - 1) x (first - 1) (node - 1) (byte_left node byte + bit_in (node - 1) (get_or keys (i - 1) 0))) e s;
        parent_is = ap (◌/ 2) e;
        bit_is = λ odd. ap (bit_in (node - 1)) e;
      }
