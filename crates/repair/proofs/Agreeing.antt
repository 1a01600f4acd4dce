-- Which bytes are kept; images that agree in them have the same page counts, the same nodes and the same answers to the questions of kept bytes.
-- Assumes nothing.
use mathlib.Core.Path.{◌≡◌, sym, ap, ap₂, ◌∙◌}
use mathlib.Core.Bool.{true, ◌||◌}
use mathlib.Core.List.{List, map, flat_map}
use Prim.Native.Nat.{ℕ, ◌+◌, ◌-◌, ◌*◌, ◌%◌, ◌≤◌, ◌<◌, min}
use native.Mathlib.Omega.{arith}
use native.Mathlib.Decide.{dec_lt}
use lib.Dec.{eqb, leb, ltb}
use borrow.Author.Tests.{le-leb, lt-leb, lt-ltb, le-ltb, leb-true, ltb-true}
use lib.ListN.{get_or, take, drop, length-take, length-drop}
use lib.Seq.{ext_get_or, get_or-take, get_or-drop}
use Rattle.format.specs.Seq.{numbers_from, total, up_to}
use Rattle.format.specs.Page.{number_at, pairs_of}
use Rattle.format.specs.Header.{mark}
use Rattle.format.specs.Image.{bands, lift_of, page_count, page_number, page_pairs, pages_before, version_of}
use Rattle.format.specs.Question.{lift_right, mark_right, version_known, zeros_right}
use Rattle.format.proofs.Lists.{all_numbers, all_up_to, every_same, map_same, or_first, or_second}
use Rattle.repair.specs.Kept.{Agree, kept}
use Rattle.repair.specs.Sound.{header_kept}

-- ---- the kept bytes

pub data Kept (i : ℕ) : Type 0 where
  low : i < 6 → Kept i
  count : 6 ≤ i → i < 40 → i % 4 < 2 → Kept i
  high : 40 ≤ i → i < 64 → Kept i
  node : 64 ≤ i → 4 ≤ i % 64 → Kept i

pub is_kept : (i : ℕ) → Kept i → kept i ≡ true
unfolding kept
is_kept i (low h) = rw (lt-ltb i 64 (omega arith), lt-ltb i 6 h)
is_kept i (count h k m) = rw (lt-ltb i 64 (omega arith)) (or_second (ltb i 6 || leb 40 i) (ltb (i % 4) 2) (lt-ltb (i % 4) 2 m))
is_kept i (high h k) = rw (lt-ltb i 64 k) (or_first (ltb i 6 || leb 40 i) (ltb (i % 4) 2) (or_second (ltb i 6) (leb 40 i) (le-leb 40 i h)))
is_kept i (node h k) = rw (le-ltb i 64 h) (le-leb 4 (i % 64) k)

pub of_kept : (i : ℕ) → kept i ≡ true → Kept i
unfolding kept
of_kept i e =
    elim (dec_lt i 64) [
      | yes h ↦ elim (dec_lt i 6) [
        | yes k ↦ low k
        | no k ↦ elim (dec_lt i 40) [
          | yes m ↦ count (omega arith) m (ltb-true (i % 4) 2 (rw (lt-ltb i 64 h, le-ltb i 6 (omega arith), lt-leb 40 i m) at e))
          | no m ↦ high (omega arith) h
        ]
      ]
      | no h ↦ node (omega arith) (leb-true 4 (i % 64) (rw (le-ltb i 64 (omega arith)) at e))
    ]

-- ---- two images that agree

pub agree_sym : {a b : List ℕ} → Agree a b → Agree b a
agree_sym g = record { size = sym g.size; same = λ i k. sym (g.same i k) }

pub agree_trans : {a b c : List ℕ} → Agree a b → Agree b c → Agree a c
agree_trans g h = record { size = g.size ∙ h.size; same = λ i k. g.same i k ∙ h.same i k }

module _ {a b : List ℕ} (g : Agree a b) where
  same_byte : (i : ℕ) → Kept i → get_or a i 0 ≡ get_or b i 0
  same_byte i k = g.same i (is_kept i k)

  same-part : (s m : ℕ) → ((j : ℕ) → j < m → Kept (s + j)) → take m (drop s a) ≡ take m (drop s b)
  same-part s m h =
      ext_get_or 0 (take m (drop s a)) (take m (drop s b))
      (length-take m (drop s a)
      ∙ ap (min m) (length-drop s a ∙ ap (◌- s) g.size ∙ sym (length-drop s b))
      ∙ sym (length-take m (drop s b)))
      (λ i k. let lt : i < m = omega (arith, length-take m (drop s a)) in
      get_or-take m (drop s a) i 0 lt
      ∙ get_or-drop s a i 0
      ∙ same_byte (s + i) (h i lt)
      ∙ sym (get_or-take m (drop s b) i 0 lt ∙ get_or-drop s b i 0))

  same_number : (at : ℕ) → Kept at → Kept (at + 1) → number_at a at ≡ number_at b at
  unfolding number_at
  same_number at h k = ap₂ (λ (m n : ℕ). 256 * m + n) (same_byte at h) (same_byte (at + 1) k)

  -- page counts, and where the pages stand
  pub same_count : (t : ℕ) → 1 ≤ t → t ≤ 8 → page_count a t ≡ page_count b t
  unfolding page_count
  same_count t lo hi = same_number (4 + 4 * t) (count (omega arith) (omega arith) (omega arith)) (count (omega arith) (omega arith) (omega arith))

  counts_same : (i n : ℕ) → 1 ≤ i → i + n ≤ 9 → map (page_count a) (numbers_from i n) ≡ map (page_count b) (numbers_from i n)
  counts_same i n lo hi = map_same (page_count a) (page_count b) (numbers_from i n) (all_numbers (λ t. page_count a t ≡ page_count b t) i n (λ t m k. same_count t (omega arith) (omega arith)))

  pub same_total : total (map (page_count a) bands) ≡ total (map (page_count b) bands)
  unfolding bands
  same_total = ap total (counts_same 1 8 (omega arith) (omega arith))

  pub same_place : (t i : ℕ) → 1 ≤ t → t ≤ 8 → page_number a t i ≡ page_number b t i
  unfolding page_number pages_before
  same_place t i lo hi = ap (λ (l : List ℕ). 1 + total l + i) (counts_same 1 (t - 1) (omega arith) (omega arith))

  -- a page's pairs
  pub same_pairs : (t i : ℕ) → 1 ≤ t → t ≤ 8 → page_pairs a t i ≡ page_pairs b t i
  unfolding page_pairs page_number
  same_pairs t i lo hi =
      ap (flat_map pairs_of)
      (same-part (64 * page_number a t i + 4) 60 (λ j h. node (omega arith) (omega arith))
      ∙ ap (λ (n : ℕ). take 60 (drop (64 * n + 4) b)) (same_place t i lo hi))

  -- ---- 1, 2, 3, 5, 35 and 6

  same-mark : mark_right a ≡ mark_right b
  unfolding mark_right
  same-mark =
      every_same (λ i. eqb (get_or a i 0) (get_or mark i 0)) (λ i. eqb (get_or b i 0) (get_or mark i 0)) (up_to 3)
      (all_up_to (λ i. eqb (get_or a i 0) (get_or mark i 0) ≡ eqb (get_or b i 0) (get_or mark i 0)) 3 (λ i h. ap (λ (x : ℕ). eqb x (get_or mark i 0)) (same_byte i (low (omega arith)))))

  same_version : version_of a ≡ version_of b
  unfolding version_of
  same_version = same_number 3 (low (omega arith)) (low (omega arith))

  same-forty : number_at a 40 ≡ number_at b 40
  same-forty = same_number 40 (high (omega arith) (omega arith)) (high (omega arith) (omega arith))

  same_lift : lift_of a ≡ lift_of b
  unfolding lift_of
  same_lift = rw (same_version, same-forty)

  same-zeros : zeros_right a ≡ zeros_right b
  unfolding zeros_right
  same-zeros = rw (same_version, same-forty, same_byte 5 (low (omega arith)), same-part 42 22 (λ j h. high (omega arith) (omega arith)))

  pub same_header : header_kept a ≡ header_kept b
  unfolding header_kept version_known lift_right
  same_header = rw (g.size, same-mark, same_version, same-zeros, same_lift, same_total)
