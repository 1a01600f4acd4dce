-- The counts of bands as the header has them: two numbers for each.
-- Assumes nothing.
use mathlib.Core.Path.{◌≡◌, refl, sym, ap, ◌∙◌}
use mathlib.Core.List.{List, [], ◌∷◌, ◌++◌}
use Prim.Native.Nat.{ℕ, zero, suc, ◌+◌, ◌*◌, ◌-◌, ◌<◌}
use native.Mathlib.Omega.{arith}
use lib.ListN.{length, get_or, take, set, length-append, length-take}
use lib.Seq.{take_at, take-take, get_or-take, get_or_at}
use Rattle.packing.specs.declared.BandCounts.{BandCounts}
use Rattle.image_writer.specs.Image.{numbers_of}

pub length-numbers : (l : List BandCounts) → length (numbers_of l) ≡ 2 * length l
unfolding numbers_of
length-numbers [] = refl
length-numbers (x ∷ l) = omega (arith, length-numbers l)

-- the counts of one band
pub pages_at : (l : List BandCounts) (b : ℕ) (d : BandCounts) → b < length l → get_or (numbers_of l) (2 * b) 0 ≡ (get_or l b d).pages
unfolding numbers_of
pages_at [] b d h = absurd (omega arith)
pages_at (x ∷ l) zero d h = refl
pages_at (x ∷ l) (suc b) d h = let e : 2 * suc b ≡ suc (suc (2 * b)) = omega arith in ap (λ (n : ℕ). get_or (numbers_of (x ∷ l)) n 0) e ∙ pages_at l b d (omega arith)

pub roots_at : (l : List BandCounts) (b : ℕ) (d : BandCounts) → b < length l → get_or (numbers_of l) (2 * b + 1) 0 ≡ (get_or l b d).roots
unfolding numbers_of
roots_at [] b d h = absurd (omega arith)
roots_at (x ∷ l) zero d h = refl
roots_at (x ∷ l) (suc b) d h = let e : 2 * suc b + 1 ≡ suc (suc (2 * b + 1)) = omega arith in ap (λ (n : ℕ). get_or (numbers_of (x ∷ l)) n 0) e ∙ roots_at l b d (omega arith)

-- the counts of one band put in
pub numbers-set : (l : List BandCounts) (b : ℕ) (r : BandCounts) → numbers_of (set l b r) ≡ set (set (numbers_of l) (2 * b) r.pages) (2 * b + 1) r.roots
unfolding numbers_of
numbers-set [] b r = refl
numbers-set (x ∷ l) zero r = refl
numbers-set (x ∷ l) (suc b) r =
    let e : 2 * suc b ≡ suc (suc (2 * b)) = omega arith in
    let f : 2 * suc b + 1 ≡ suc (suc (2 * b + 1)) = omega arith in
    rw (f, e) (ap (λ (n : List ℕ). x.pages ∷ x.roots ∷ n) (numbers-set l b r))

-- the first bands, without the last of them
pub record LastLeft (bands rest after : List BandCounts) (last : BandCounts) : Type 0 where
  pub one_less : length rest - 1 ≡ length after
  pub some : 0 < length rest
  pub left : after ≡ take (length after) bands
  pub pages_are : get_or (numbers_of bands) (2 * (length rest - 1)) 0 ≡ last.pages

pub last_left : (bands rest after : List BandCounts) (last : BandCounts) → rest ≡ take (length rest) bands → rest ≡ after ++ last ∷ [] → LastLeft bands rest after last
last_left bands rest after last left cut =
    let n : length rest ≡ length after + 1 = omega (arith, ap length cut, length-append after (last ∷ [])) in
    let one : length rest - 1 ≡ length after = omega arith in
    let kept : after ≡ take (length after) bands = sym (take_at after (last ∷ []) (length after) refl) ∙ ap (take (length after)) (sym cut ∙ left) ∙ take-take (length after) (length rest) bands (omega arith) in
    let here : get_or bands (length after) last ≡ last = sym (get_or-take (length rest) bands (length after) last (omega arith)) ∙ ap (λ (l : List BandCounts). get_or l (length after) last) (sym left ∙ cut) ∙ get_or_at after last [] last (length after) refl in
    record {
      one_less = one;
      some = omega arith;
      left = kept;
      pages_are = ap (λ (k : ℕ). get_or (numbers_of bands) (2 * k) 0) one ∙ pages_at bands (length after) last (omega (arith, n, ap length left, length-take (length rest) bands)) ∙ ap (λ (b : BandCounts). b.pages) here;
    }
