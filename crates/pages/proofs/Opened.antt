-- A page as it is opened: its roots from two T's, its out-links from two B's.
-- Assumes nothing.
use mathlib.Core.Path.{◌≡◌, sym, ap, ◌∙◌}
use mathlib.Core.List.{List, [], ◌∷◌, map, map-append}
use Prim.Native.Nat.{ℕ, suc, ◌+◌, ◌-◌, ◌*◌, ◌≤◌, ◌<◌}
use native.Mathlib.Nat.{zero-add}
use native.Mathlib.Decide.{dec_le}
use native.Mathlib.Omega.{arith}
use native.Mathlib.Numerals.{add-one}
use lib.ListN.{length}
use Rattle.format.specs.Seq.{numbers_from, total, up_to}
use Rattle.format.specs.Image.{next_t, out_link_count, page_b, page_count, page_number, page_roots, page_t, root_count}
use Rattle.format.specs.Question.{out_links_due}
use Rattle.format.proofs.Lists.{numbers-split, total-append}
use Rattle.format.proofs.Counters.{b_counts}
use Rattle.format.proofs.Read.{next_roots}
use Rattle.format.proofs.Walk.{page_holds}
use Rattle.pages.specs.declared.Band.{Band}
use Rattle.pages.specs.Page.{Ready, BandRead, LastPage}
use Rattle.pages.proofs.Pages.{bytes, checked, page_number_lem, page_end, head_t, head_b}

-- page i of a band, where t is its T and n the next
module _ {img : List ℕ} (r : Ready img) {band : Band} (d : BandRead img band) {i : ℕ} (h : i < page_count img band.number) where
  pub number_is : band.first + i ≡ page_number img band.number i
  number_is = ap (◌+ i) d.first ∙ page_number_lem r band.number i

  pub in_image : 64 * (band.first + i) + 64 ≤ length img
  in_image = omega (arith, page_end r band.number i d.from d.to h, d.first)

  module _ {t n : ℕ} (et : t ≡ page_t img band.number i) (en : n ≡ next_t img band.number i) where
    next_is : page_t img band.number i + page_roots img band.number i ≡ next_t img band.number i
    next_is = next_roots img (bytes r) (checked r) band.number d.from d.to i h

    pub t_le : t ≤ n
    t_le = omega (arith, next_is)

    pub roots_are : n - t ≡ page_roots img band.number i
    roots_are = omega (arith, next_is)

-- the last page whose T is at or below a root's number has that root
pub root_in_lem : {img : List ℕ} (r : Ready img) {band : Band} (d : BandRead img band) {n i : ℕ} → LastPage img band.number 0 n i → n < root_count img band.number
    → (page_t img band.number i ≤ n) × (n < page_t img band.number i + page_roots img band.number i)
root_in_lem {img} r {band} d {n} {i} l h = (
  omega (arith, head_t r band.number i, l.at),
  page_holds img (bytes r) (checked r) band.number i n d.from d.to l.in_band
      (λ k. omega (arith, l.after (omega arith), head_t r band.number (i + 1), ap (page_t img band.number) (add-one i))) h,
)

-- the out-links of a band
module _ {img : List ℕ} (r : Ready img) (b : ℕ) (lo : 1 ≤ b) (hi : b ≤ 8) where
  -- B counts those of the pages before, and with the last page's they are all
  links-all : (i : ℕ) → suc i ≡ page_count img b → page_b img b i + out_link_count img b i ≡ out_links_due img b
  unfolding up_to numbers_from total
  links-all i h =
      let e : i + 1 ≡ page_count img b = omega arith in
      let all : total (map (out_link_count img b) (numbers_from 0 (i + 1))) ≡ out_links_due img b = ap (λ (n : ℕ). total (map (out_link_count img b) (numbers_from 0 n))) e ∙ (checked r).link b lo hi in
      let split : total (map (out_link_count img b) (numbers_from 0 (i + 1))) ≡ total (map (out_link_count img b) (numbers_from 0 i)) + total (map (out_link_count img b) ((0 + i) ∷ [])) =
      ap (λ (l : List ℕ). total (map (out_link_count img b) l)) (numbers-split 0 i 1)
      ∙ ap total (map-append (out_link_count img b) (numbers_from 0 i) ((0 + i) ∷ []))
      ∙ total-append (map (out_link_count img b) (numbers_from 0 i)) (map (out_link_count img b) ((0 + i) ∷ [])) in
      omega (arith, b_counts img (bytes r) (checked r) b lo hi i (omega arith), ap (out_link_count img b) (zero-add i))

  -- the B after a page's
  pub next_b : (i : ℕ) → i + 1 < page_count img b → page_b img b (i + 1) ≡ page_b img b i + out_link_count img b i
  next_b i h = ap (page_b img b) (add-one i) ∙ ((checked r).page b (suc i) lo hi (omega arith)).counters

  -- after the last page's stand the out-links that the band must have
  pub next_b_last : (i : ℕ) → i < page_count img b → page_count img b ≤ i + 1 → out_links_due img b ≡ page_b img b i + out_link_count img b i
  next_b_last i h k = sym (links-all i (omega arith))

-- the last page whose B is at or below an out-link's number has that out-link
pub link_in : {img : List ℕ} (r : Ready img) {band : Band} (d : BandRead img band) {n i : ℕ} → LastPage img band.number 2 n i → n < out_links_due img band.number
    → (page_b img band.number i ≤ n) × (n < page_b img band.number i + out_link_count img band.number i)
link_in {img} r {band} d {n} {i} l h = (
  omega (arith, head_b r band.number i, l.at),
  elim (dec_le (suc (suc i)) (page_count img band.number)) [
    | yes k ↦ omega (arith, l.after (omega arith), head_b r band.number (i + 1), next_b r band.number d.from d.to i (omega arith))
    | no k ↦ omega (arith, links-all r band.number d.from d.to i (omega (arith, l.in_band)))
  ],
)
