-- The page of a root as the code finds it, from the last page on, on every byte sequence whose 1 to 7 get a yes.
-- Assumes nothing.
use mathlib.Core.Path.{◌≡◌, refl, ap, ap₂, ◌∙◌}
use mathlib.Core.Bool.{Bool, true, false, cond}
use mathlib.Core.List.{List}
use Prim.Native.Nat.{ℕ, ◌+◌, ◌-◌, ◌*◌, ◌≤◌, ◌<◌}
use native.Mathlib.Omega.{arith}
use native.Mathlib.Decide.{dec_le}
use lib.Dec.{leb, ltb}
use borrow.Author.Tests.{le-leb, lt-leb}
use lib.ListN.{length}
use Rattle.format.specs.Page.{number_at}
use Rattle.format.specs.Image.{next_t, page_count, page_number, page_t, page_with, pages_before, root_count}
use Rattle.format.proofs.Read.{pages_within}
use Rattle.format.proofs.LastBelow.{last_below_lem}
use Rattle.checker.specs.Paged.{BandAt}
use Rattle.paged_lookup.specs.Paged.{has_page}
use Rattle.paged_lookup.specs.Way.{AllAbove, LastUpto}
use Rattle.paged_lookup.proofs.LastPages.{last_page, page_there}

-- all pages from one on have a larger T
pub record Later (img : List ℕ) (first pages root index : ℕ) : Type 0 where
  pub within : index ≤ pages
  pub above : AllAbove img first pages root index

module _ {img : List ℕ} {first pages root : ℕ} where
  pub later_start : Later img first pages root pages
  later_start = record { within = omega arith; above = record { after = λ j h k. absurd (omega arith) } }

  module _ {index : ℕ} (l : Later img first pages root index) where
    pub later_here : 0 < index → {t : ℕ} → t ≡ number_at img (64 * (first + (index - 1))) → t ≤ root → LastUpto img first pages root (index - 1)
    later_here h e k = record { in_band = omega (arith, l.within); at = omega arith; after = record { after = λ j u v. l.above.after j (omega arith) v } }

    pub later_next : 0 < index → {t : ℕ} → t ≡ number_at img (64 * (first + (index - 1))) → root < t → Later img first pages root (index - 1)
    later_next h {t} e k =
        record {
          within = omega (arith, l.within);
          above = record {
            after = λ j u v. elim (dec_le index j) [
              | yes w ↦ l.above.after j w v
              | no w ↦ let same : index - 1 ≡ j = omega arith in omega (arith, ap (λ (n : ℕ). number_at img (64 * (first + n))) same)
            ];
          };
        }

    pub later_end : index ≤ 0 → AllAbove img first pages root 0
    later_end h = record { after = λ j u v. l.above.after j (omega arith) v }

-- the page as the code reads it: its index in the band, its number in the image, its T and the next
pub record PageFound (img : List ℕ) (b root i number t next : ℕ) : Type 0 where
  pub in_band : i < page_count img b
  pub has : has_page img b root ≡ true
  pub is : page_with img b root ≡ i
  pub number_is : number ≡ page_number img b i
  pub t_is : t ≡ page_t img b i
  pub next_is : next ≡ next_t img b i

module _ {img : List ℕ} {b first : ℕ} (p : BandAt img b first) {pages : ℕ} (ep : pages ≡ page_count img b) where
  pub band_fits : 64 * (first + pages) ≤ length img
  unfolding pages_before
  band_fits = omega (arith, p.first_is, p.sized.size, pages_within img b p.lo p.hi)

  -- the pages' numbers, and their T
  number-at : (i : ℕ) → first + i ≡ page_number img b i
  unfolding page_number
  number-at i = ap (◌+ i) p.first_is

  T-at : (i : ℕ) → number_at img (64 * (first + i)) ≡ page_t img b i
  unfolding page_t
  T-at i = ap (λ (n : ℕ). number_at img (64 * n)) (number-at i)

  module _ {root : ℕ} where
    pub none_found : AllAbove img first pages root 0 → has_page img b root ≡ false
    none_found u = go (has_page img b root) refl
      where
        go : (t : Bool) → has_page img b root ≡ t → t ≡ false
        go false e = refl
        go true e = let l = last_page img b root e in absurd (omega (arith, l.at, T-at (page_with img b root), u.after (page_with img b root) (omega arith) (omega (arith, l.in_band))))

    module _ {index : ℕ} (u : LastUpto img first pages root index) where
      T-below : page_t img b index ≤ root
      T-below = omega (arith, u.at, T-at index)

      pub found : {number t roots next : ℕ} → number ≡ first + index → t ≡ number_at img (64 * number) → roots ≡ root_count img b
          → next ≡ cond (ltb (index + 1) pages) (number_at img (64 * (first + (index + 1)))) roots → PageFound img b root index number t next
      unfolding next_t page_t page_with
      found {number} {t} {roots} {next} e et er en =
          let here : index < page_count img b = omega (arith, u.in_band) in
          let n : number ≡ page_number img b index = e ∙ number-at index in
          record {
            in_band = here;
            has = page_there img b root index here T-below;
            is = last_below_lem (page_count img b) (λ i. leb (page_t img b i) root) index here (le-leb (page_t img b index) root T-below)
                (λ j h k. lt-leb (page_t img b j) root (omega (arith, u.after.after j (omega arith) (omega arith), T-at j)));
            number_is = n;
            t_is = et ∙ ap (λ (m : ℕ). number_at img (64 * m)) n;
            next_is = en ∙ ap₂ (λ (m x : ℕ). cond (ltb (index + 1) m) (number_at img (64 * (first + (index + 1)))) x) ep er
                ∙ ap (λ (x : ℕ). cond (ltb (index + 1) (page_count img b)) x (root_count img b)) (T-at (index + 1));
          }
