-- The restored image read back: it agrees in the kept bytes, and each number stands at its place, cut to 16 bits.
-- Assumes nothing.
use mathlib.Core.Path.{◌≡◌, subst}
use mathlib.Core.List.{List, map, flat_map}
use Prim.Native.Nat.{ℕ, suc, ◌+◌, ◌*◌, ◌%◌, ◌≤◌, ◌<◌}
use native.Mathlib.Omega.{arith}
use lib.ListN.{length}
use Rattle.format.specs.Seq.{All, numbers_from, total, up_to}
use Rattle.format.specs.Page.{Byte, number_at}
use Rattle.format.specs.Image.{bands, page_count, page_number, pages_before}
use Rattle.format.proofs.Lists.{all_append, all_flat_map, all_left, all_map, all_numbers, all_right, all_up_to, flat_map_all, map_all, numbers_all, up_to_all}
use Rattle.format.proofs.Back.{pages_before-suc}
use Rattle.repair.specs.Kept.{Agree}
use Rattle.repair.specs.Numbers.{head_numbers, header_number, links_before, numbers, restored, roots_before}
use Rattle.repair.proofs.Agreeing.{Kept, low, count, high, node}
use Rattle.repair.proofs.Puts.{Between, Loose, Stands, between-append, between-flat_map, between_lower, between-map, puts_agree, puts_bytes, puts_stand, stands_number}

-- ---- places that are not kept

in_header : (i : ℕ) → 6 ≤ i → i < 40 → 2 ≤ i % 4 → Kept i → ⊥
in_header i a b c (low h) = omega arith
in_header i a b c (count h k m) = omega arith
in_header i a b c (high h k) = omega arith
in_header i a b c (node h k) = omega arith

in_head : (i : ℕ) → 64 ≤ i → i % 64 < 4 → Kept i → ⊥
in_head i a b (low h) = omega arith
in_head i a b (count h k m) = omega arith
in_head i a b (high h k) = omega arith
in_head i a b (node h k) = omega arith

-- the header's, and those at a page's start
pub header_loose : (k x : ℕ) → k < 9 → Loose (6 + 4 * k, x)
header_loose k x h = (in_header (6 + 4 * k) (omega arith) (omega arith) (omega arith), in_header (suc (6 + 4 * k)) (omega arith) (omega arith) (omega arith))

pub t_loose : (p x : ℕ) → 1 ≤ p → Loose (64 * p, x)
t_loose p x h = (in_head (64 * p) (omega arith) (omega arith), in_head (suc (64 * p)) (omega arith) (omega arith))

pub b_loose : (p x : ℕ) → 1 ≤ p → Loose (64 * p + 2, x)
b_loose p x h = (in_head (64 * p + 2) (omega arith) (omega arith), in_head (suc (64 * p + 2)) (omega arith) (omega arith))

module _ (img : List ℕ) where
  numbers-loose : All Loose (numbers img)
  unfolding numbers head_numbers bands page_number
  numbers-loose =
      all_append Loose (map (λ k. (6 + 4 * k, header_number img k)) (up_to 9)) (flat_map (λ b. flat_map (head_numbers img b) (up_to (page_count img b))) (numbers_from 1 8))
      (all_map (λ k. (6 + 4 * k, header_number img k)) Loose (up_to 9) (all_up_to (λ k. Loose (6 + 4 * k, header_number img k)) 9 (λ k h. header_loose k (header_number img k) h)))
      (all_flat_map (λ b. flat_map (head_numbers img b) (up_to (page_count img b))) Loose (numbers_from 1 8) (all_numbers (λ b. All Loose (flat_map (head_numbers img b) (up_to (page_count img b)))) 1 8
      (λ b lo hi. all_flat_map (head_numbers img b) Loose (up_to (page_count img b)) (all_up_to (λ i. All Loose (head_numbers img b i)) (page_count img b)
      (λ i h. let p = 1 + pages_before img b + i in (t_loose p (roots_before img b i) (omega arith), (b_loose p (links_before img b i) (omega arith), tt)))))))

  -- it agrees in the kept bytes, whatever the image
  pub restored_agrees : Agree img (restored img)
  unfolding restored
  restored_agrees = puts_agree img (numbers img) numbers-loose

  pub restored_bytes : All Byte img → All Byte (restored img)
  unfolding restored
  restored_bytes h = puts_bytes img (numbers img) h

  -- ---- the numbers stand at ascending places

  band-between : (b : ℕ) → 1 ≤ b → Between (64 * page_number img b 0) (64 * page_number img (suc b) 0) (flat_map (head_numbers img b) (up_to (page_count img b)))
  unfolding up_to head_numbers page_number
  band-between b lo =
      let e : 64 * (1 + pages_before img b + (0 + page_count img b)) ≡ 64 * (1 + pages_before img (suc b) + 0) = omega (arith, pages_before-suc img b lo) in
      subst (λ (hi : ℕ). Between (64 * (1 + pages_before img b + 0)) hi (flat_map (head_numbers img b) (numbers_from 0 (page_count img b)))) e
      (between-flat_map (λ i. 64 * page_number img b i) (head_numbers img b) 0 (page_count img b) (λ i from to. (omega arith, (omega arith, omega arith))))

  module _ (size : length img ≡ 64 * (1 + total (map (page_count img) bands))) where
    pages-between : Between 64 (length img) (flat_map (λ b. flat_map (head_numbers img b) (up_to (page_count img b))) (numbers_from 1 8))
    unfolding page_number pages_before numbers_from bands total
    pages-between =
        let e : 64 * page_number img 9 0 ≡ length img = omega arith in
        subst (λ (hi : ℕ). Between 64 hi (flat_map (λ b. flat_map (head_numbers img b) (up_to (page_count img b))) (numbers_from 1 8))) e
        (between-flat_map (λ b. 64 * page_number img b 0) (λ b. flat_map (head_numbers img b) (up_to (page_count img b))) 1 8 (λ b lo hi. band-between b lo))

    all-stand : All (Stands (restored img)) (numbers img)
    unfolding restored numbers bands up_to
    all-stand =
        puts_stand img 6 (length img) (numbers img)
        (between-append 6 42 (length img) (map (λ k. (6 + 4 * k, header_number img k)) (numbers_from 0 9)) (flat_map (λ b. flat_map (head_numbers img b) (up_to (page_count img b))) (numbers_from 1 8))
        (between-map (λ k. 6 + 4 * k) (λ k. (6 + 4 * k, header_number img k)) 0 9 (λ k from to. (omega arith, omega arith)))
        (between_lower 42 64 (length img) (flat_map (λ b. flat_map (head_numbers img b) (up_to (page_count img b))) (numbers_from 1 8)) (omega arith) pages-between)) (omega arith)

    -- so each is read back, cut to 16 bits
    pub header_back : (k : ℕ) → k < 9 → number_at (restored img) (6 + 4 * k) ≡ header_number img k % 65536
    unfolding numbers
    header_back k h =
        stands_number (up_to_all (λ k. Stands (restored img) (6 + 4 * k, header_number img k)) 9
        (map_all (λ k. (6 + 4 * k, header_number img k)) (Stands (restored img)) (up_to 9) (all_left (Stands (restored img)) (map (λ k. (6 + 4 * k, header_number img k)) (up_to 9)) _ all-stand)) k h)

    heads-stand : (b i : ℕ) → 1 ≤ b → b ≤ 8 → i < page_count img b → All (Stands (restored img)) (head_numbers img b i)
    unfolding numbers bands
    heads-stand b i lo hi h =
        up_to_all (λ i. All (Stands (restored img)) (head_numbers img b i)) (page_count img b)
        (flat_map_all (head_numbers img b) (Stands (restored img)) (up_to (page_count img b))
        (numbers_all (λ b. All (Stands (restored img)) (flat_map (head_numbers img b) (up_to (page_count img b)))) 1 8
        (flat_map_all (λ b. flat_map (head_numbers img b) (up_to (page_count img b))) (Stands (restored img)) (numbers_from 1 8)
        (all_right (Stands (restored img)) (map (λ k. (6 + 4 * k, header_number img k)) (up_to 9)) _ all-stand)) b lo (omega arith))) i h

    pub T_back : (b i : ℕ) → 1 ≤ b → b ≤ 8 → i < page_count img b → number_at (restored img) (64 * page_number img b i) ≡ roots_before img b i % 65536
    unfolding head_numbers
    T_back b i lo hi h = stands_number (heads-stand b i lo hi h).0

    pub b_back : (b i : ℕ) → 1 ≤ b → b ≤ 8 → i < page_count img b → number_at (restored img) (64 * page_number img b i + 2) ≡ links_before img b i % 65536
    unfolding head_numbers
    b_back b i lo hi h = stands_number (heads-stand b i lo hi h).1.0
