-- The header's bytes: its parts, how many they are, the counts of the bands and the version in them, and that all are bytes.
-- Assumes nothing.
use mathlib.Core.Path.{◌≡◌, refl, ap, ◌∙◌}
use mathlib.Core.List.{List, [], ◌∷◌, ◌++◌, flat_map, append_assoc}
use Prim.Native.Nat.{ℕ, zero, suc, ◌*◌, ◌≤◌}
use native.Mathlib.Omega.{arith}
use lib.ListN.{length, replicate, length-append}
use Rattle.format.specs.Seq.{All}
use Rattle.format.specs.Page.{Byte, two_bytes}
use Rattle.format.specs.Header.{header, header_end, header_start, mark, version_for}
use Rattle.format.specs.Writer.{band_counts, pages_of, roots_in}
use Rattle.format.proofs.Lists.{all_append, all_to}
use Rattle.format.proofs.Bytes.{two_bytes_small, zeros_all}

-- numbers of two bytes each
pub length_two : (l : List ℕ) → length (flat_map two_bytes l) ≡ 2 * length l
unfolding flat_map two_bytes
length_two [] = refl
length_two (x ∷ l) = omega (arith, length_two l)

-- two counts a band
pub length_counts : (l : List (List (List ℕ))) → length (flat_map band_counts l) ≡ 2 * length l
unfolding flat_map band_counts
length_counts [] = refl
length_counts (band ∷ l) = omega (arith, length_counts l)

-- a band's counts as bytes, and those of all bands
abbrev pub count_bytes : List (List ℕ) → List ℕ
count_bytes band = two_bytes (length (pages_of band)) ++ two_bytes (roots_in band)

pub count_bytes_lem : (l : List (List (List ℕ))) → flat_map two_bytes (flat_map band_counts l) ≡ flat_map count_bytes l
unfolding flat_map band_counts two_bytes
count_bytes_lem [] = refl
count_bytes_lem (band ∷ l) = ap (λ (t : List ℕ). count_bytes band ++ t) (count_bytes_lem l)

-- bytes 0 to 5, and 40 to 63
pub length_start : (lift : ℕ) → length (header_start lift) ≡ 6
unfolding header_start mark two_bytes
length_start lift = refl

pub length_end : (lift : ℕ) → length (header_end lift) ≡ 24
unfolding header_end two_bytes
length_end lift = refl

-- the header has 64 bytes
pub length-header : (lift n : ℕ) (counts : List ℕ) → length counts ≡ 16 → length (header lift n counts) ≡ 64
unfolding header two_bytes
length-header lift n counts e =
    length-append (header_start lift ++ two_bytes n ++ flat_map two_bytes counts) (header_end lift)
    ∙ omega (arith, length-append (header_start lift ++ two_bytes n) (flat_map two_bytes counts), length-append (header_start lift) (two_bytes n), length_start lift, length_two counts, length_end lift)

-- a header and what follows it, part by part
pub header_parts : (lift n : ℕ) (counts body : List ℕ) → header lift n counts ++ body ≡ header_start lift ++ (two_bytes n ++ (flat_map two_bytes counts ++ (header_end lift ++ body)))
unfolding header
header_parts lift n counts body = simp append_assoc

-- ---- the version

-- version 2 for a lift, and no version is above it
pub version_some : (lift : ℕ) → 1 ≤ lift → version_for lift ≡ 2
unfolding version_for
version_some zero h = absurd (omega arith)
version_some (suc n) h = refl

pub version_small : (lift : ℕ) → version_for lift ≤ 2
unfolding version_for
version_small zero = omega arith
version_small (suc n) = omega arith

-- the first bytes tell the version alone
pub start_same : (lift n : ℕ) → version_for lift ≡ version_for n → header_start lift ≡ header_start n
unfolding header_start
start_same lift n e = ap (λ (v : ℕ). mark ++ two_bytes v ++ 0 ∷ []) e

-- ---- all are bytes

pub start_bytes : (lift : ℕ) → All Byte (header_start lift)
unfolding header_start mark
start_bytes lift =
    all_append Byte (mark ++ two_bytes (version_for lift)) (0 ∷ []) (omega arith, (omega arith, (omega arith, two_bytes_small (version_for lift) (omega (arith, version_small lift))))) (omega arith, tt)

pub end_bytes : (lift : ℕ) → lift ≤ 999 → All Byte (header_end lift)
unfolding header_end
end_bytes lift h = all_append Byte (two_bytes lift) (replicate 22 0) (two_bytes_small lift (omega arith)) (all_to (λ z. z ≡ 0) Byte (λ z e. omega arith) (replicate 22 0) (zeros_all 22))
