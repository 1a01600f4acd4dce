-- The last page of a band whose T or B is at or below a number, among the band's pages as parts of 64 bytes.
-- Assumes nothing.
use mathlib.Core.Path.{◌≡◌, refl, ap, ap₂, ◌∙◌}
use mathlib.Core.List.{List, []}
use Prim.Native.Nat.{ℕ, zero, suc, ◌+◌, ◌-◌, ◌*◌, ◌/◌, ◌≤◌, ◌<◌}
use native.Mathlib.Omega.{arith}
use borrow.Rule.Slice.PartMut.{mid_of}
use lib.ListN.{length, get_or, take, drop, length-drop}
use lib.Seq.{get_or-drop, get_or-take, length-take-le}
use borrow.Author.Tests.{leb-true, leb-false}
use Rattle.std.proofs.lemmas.List.{drop-drop}
use Rattle.std.specs.Simd.{first_chunks}
use Rattle.std.specs.List.Sorted.{IsNonDecreasingBy, IsPartitionPoint}
use native.Mathlib.Decide.{dec_le}
use lib.Dec.{leb}
use mathlib.Core.Bool.{true, false}
use Rattle.format.specs.Image.{page_count, page_number}
use Rattle.format.specs.Page.{number_at}
use Rattle.pages.specs.declared.Band.{Band}
use Rattle.pages.specs.declared.Field.{Field}
use Rattle.pages.specs.declared.Field.TheVariants.{T, B}
use Rattle.pages.specs.Page.{Ready, BandRead, LastPage, after_page, head_at, offset_of}
use Rattle.pages.proofs.Pages.{head_t, head_b, next_t_lem, page_number_lem, some_pages, page_end}
use Rattle.pages.proofs.Opened.{next_b, t_le}

-- part i of 64 bytes
chunk_at : (xs : List ℕ) (k i : ℕ) (d : List ℕ) → i < k → get_or (first_chunks 64 k xs) i d ≡ take 64 (drop (64 * i) xs)
chunk_at xs zero i d h = absurd (omega arith)
chunk_at xs (suc k) zero d h = refl
chunk_at xs (suc k) (suc i) d h = chunk_at (drop 64 xs) k i d (omega arith) ∙ ap (take 64) (drop-drop (64 * i) 64 xs ∙ ap (λ (m : ℕ). drop m xs) (let e : 64 + 64 * i ≡ 64 * suc i = omega arith in e))

pub length_chunks : (xs : List ℕ) (k : ℕ) → length (first_chunks 64 k xs) ≡ k
length_chunks xs zero = refl
length_chunks xs (suc k) = ap suc (length_chunks (drop 64 xs) k)

-- a number of it
number_in : (xs : List ℕ) (s n i off : ℕ) → off ≤ 2 → i < n → number_at (take 64 (drop (64 * i) (mid_of s (64 * n) xs))) off ≡ number_at xs (s + 64 * i + off)
unfolding number_at
number_in xs s n i off h l =
    let byte : (j : ℕ) → j < 64 → get_or (take 64 (drop (64 * i) (take (64 * n) (drop s xs)))) j 0 ≡ get_or xs (s + 64 * i + j) 0 =
    λ j k. get_or-take 64 (drop (64 * i) (take (64 * n) (drop s xs))) j 0 k ∙ get_or-drop (64 * i) (take (64 * n) (drop s xs)) j 0 ∙ get_or-take (64 * n) (drop s xs) (64 * i + j) 0 (omega arith) ∙ get_or-drop s xs (64 * i + j) 0 ∙ ap (λ (m : ℕ). get_or xs m 0) (omega arith) in
    let e : s + 64 * i + (off + 1) ≡ s + 64 * i + off + 1 = omega arith in
    ap₂ (λ (u v : ℕ). 256 * u + v) (byte off (omega arith)) (byte (off + 1) (omega arith) ∙ ap (λ (m : ℕ). get_or xs m 0) e)

offset_small : (f : Field) → offset_of f ≤ 2
offset_small T = omega arith
offset_small B = omega arith

module _ {img : List ℕ} (r : Ready img) {band : Band} (d : BandRead img band) where
  pub band_fits : 64 * band.first + 64 * band.pages ≤ length img
  band_fits =
      let last : page_count img band.number - 1 < page_count img band.number = omega (arith, some_pages r band.number d.from d.to) in
      omega (arith, page_end r band.number (page_count img band.number - 1) d.from d.to last, d.first, d.pages)

  -- the number of the next page, and it is not smaller
  pub head_after : (f : Field) (i : ℕ) → i + 1 < page_count img band.number → head_at img band.number (offset_of f) (i + 1) ≡ after_page img band.number f i
  head_after T i h = head_t r band.number (i + 1) ∙ next_t_lem r band.number i d.from d.to h
  head_after B i h = head_b r band.number (i + 1) ∙ next_b r band.number d.from d.to i h

  head_next : (f : Field) (i : ℕ) → i + 1 < page_count img band.number → head_at img band.number (offset_of f) i ≤ head_at img band.number (offset_of f) (i + 1)
  head_next T i h =
      let k : i < page_count img band.number = omega arith in
      omega (arith, head_t r band.number i, head_after T i h, t_le r d k {t = Rattle.format.specs.Image.page_t img band.number i} {n = Rattle.format.specs.Image.next_t img band.number i} refl refl)
  head_next B i h = omega (arith, head_b r band.number i, head_after B i h)

  pub head_rises : (f : Field) (i k : ℕ) → i + k < page_count img band.number → head_at img band.number (offset_of f) i ≤ head_at img band.number (offset_of f) (i + k)
  head_rises f i zero h = omega (arith, ap (head_at img band.number (offset_of f)) (let e : i + 0 ≡ i = omega arith in e))
  head_rises f i (suc k) h =
      let e : i + suc k ≡ i + k + 1 = omega arith in
      omega (arith, head_rises f i k (omega arith), head_next f (i + k) (omega arith), ap (head_at img band.number (offset_of f)) e)

  -- the band's pages
  abbrev pub pages_of : List (List ℕ)
  pages_of = first_chunks 64 band.pages (mid_of (64 * band.first) (64 * band.pages) img)

  pub chunks_are : {chunks : List (List ℕ)}
      → chunks ≡ first_chunks 64 (length (mid_of (64 * band.first) (64 * band.first + 64 * band.pages - 64 * band.first) img) / 64) (mid_of (64 * band.first) (64 * band.first + 64 * band.pages - 64 * band.first) img)
      → chunks ≡ pages_of
  chunks_are e =
      let n : 64 * band.first + 64 * band.pages - 64 * band.first ≡ 64 * band.pages = omega arith in
      let k : length (mid_of (64 * band.first) (64 * band.pages) img) / 64 ≡ band.pages = omega (arith, length-take-le (64 * band.pages) (drop (64 * band.first) img) (omega (arith, band_fits, length-drop (64 * band.first) img))) in
      e
      ∙ ap (λ (m : ℕ). first_chunks 64 (length (mid_of (64 * band.first) m img) / 64) (mid_of (64 * band.first) m img)) n
      ∙ ap (λ (m : ℕ). first_chunks 64 m (mid_of (64 * band.first) (64 * band.pages) img)) k

  number_of : (f : Field) (i : ℕ) (e : List ℕ) → i < band.pages → number_at (get_or pages_of i e) (offset_of f) ≡ head_at img band.number (offset_of f) i
  number_of f i e h =
      let off : ℕ = offset_of f in
      let at : 64 * band.first + 64 * i + off ≡ 64 * page_number img band.number i + off = omega (arith, d.first, page_number_lem r band.number i) in
      ap (λ (p : List ℕ). number_at p off) (chunk_at (mid_of (64 * band.first) (64 * band.pages) img) band.pages i e h)
      ∙ number_in img (64 * band.first) band.pages i off (offset_small f) h
      ∙ ap (number_at img) at

  pub rising : (f : Field) → IsNonDecreasingBy (λ p. number_at p (offset_of f)) pages_of
  rising f i j e le h =
      let n = length_chunks (mid_of (64 * band.first) (64 * band.pages) img) band.pages in
      let k : i + (j - i) ≡ j = omega arith in
      omega (arith, number_of f i e (omega arith), number_of f j e (omega arith), head_rises f i (j - i) (omega (arith, d.pages)), ap (head_at img band.number (offset_of f)) k)

  -- the page before the first whose number is above x
  module _ (f : Field) {x m : ℕ} (first : head_at img band.number (offset_of f) 0 ≤ x) (within : m ≤ band.pages)
      (point : IsPartitionPoint (λ p. leb (number_at p (offset_of f)) x ≡ true) (λ p. leb (number_at p (offset_of f)) x ≡ false) pages_of m) where
    above : (i : ℕ) → m ≤ i → i < band.pages → x < head_at img band.number (offset_of f) i
    above i lo hi =
        let n = length_chunks (mid_of (64 * band.first) (64 * band.pages) img) band.pages in
        omega (arith, leb-false (number_at (get_or pages_of i []) (offset_of f)) x (point.1 i [] lo (omega arith)), number_of f i [] hi)

    pub not_first : 1 ≤ m
    not_first = elim (dec_le 1 m) [
      | yes h ↦ h
      | no h ↦ absurd (omega (arith, above 0 (omega arith) (omega (arith, d.pages, some_pages r band.number d.from d.to))))
    ]

    pub last_is : LastPage img band.number (offset_of f) x (m - 1)
    last_is =
        let back : m - 1 + 1 ≡ m = omega (arith, not_first) in
        let h : m - 1 < band.pages = omega (arith, not_first) in
        record {
          in_band = omega (arith, d.pages);
          at = omega (arith, leb-true (number_at (get_or pages_of (m - 1) []) (offset_of f)) x (point.0 (m - 1) [] (omega arith) (omega (arith, not_first))), number_of f (m - 1) [] h);
          after = λ l. rw back (above m (omega arith) (omega (arith, d.pages)));
        }
