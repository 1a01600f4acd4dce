-- The page that a root's number leads to, on every byte sequence where 27 gets a yes.
-- Assumes nothing.
use mathlib.Core.Path.{◌≡◌, refl, sym, ap, ◌∙◌}
use mathlib.Core.Bool.{Bool, true, false, not}
use mathlib.Core.List.{List}
use Prim.Native.Nat.{ℕ, ◌+◌, ◌≤◌, ◌<◌}
use native.Mathlib.Omega.{arith}
use native.Mathlib.Decide.{dec_le, dec_lt}
use lib.Dec.{leb, ltb}
use borrow.Author.Tests.{le-leb, lt-ltb, le-ltb, leb-true, leb-false}
use Rattle.format.specs.Seq.{every, last_below, up_to}
use Rattle.format.specs.Image.{next_t, page_count, page_t, page_with, root_count}
use Rattle.format.proofs.LastBelow.{last_within, last_passes, last_after}
use Rattle.format.proofs.Lists.{all_every, all_up_to, every_all, up_to_all}
use Rattle.format.proofs.Checked.{cond_yes, cond_no}
use Rattle.paged_lookup.specs.Paged.{has_page}

-- page i of band b is the last whose T is at or below a root's number
pub record LastAt (img : List ℕ) (b root i : ℕ) : Type 0 where
  pub in_band : i < page_count img b
  pub at : page_t img b i ≤ root
  pub after : (j : ℕ) → i < j → j < page_count img b → root < page_t img b j

module _ (img : List ℕ) (b root : ℕ) where
  -- 27 gets a yes where a page has such a T
  pub page_there : (i : ℕ) → i < page_count img b → page_t img b i ≤ root → has_page img b root ≡ true
  unfolding has_page
  page_there i h k = go (every (λ j. ltb root (page_t img b j)) (up_to (page_count img b))) refl
    where
      go : (t : Bool) → every (λ j. ltb root (page_t img b j)) (up_to (page_count img b)) ≡ t → not t ≡ true
      go false e = refl
      go true e =
          let l : ltb root (page_t img b i) ≡ true = up_to_all (λ j. ltb root (page_t img b j) ≡ true) (page_count img b) (every_all (λ j. ltb root (page_t img b j)) (up_to (page_count img b)) e) i h in
          absurd (let w : true ≡ false = sym l ∙ le-ltb root (page_t img b i) k in let z : ◌≡◌ {A = ℕ} 0 1 = cc in omega arith)

  -- and then the page taken is the last such page
  pub last_page : has_page img b root ≡ true → LastAt img b root (page_with img b root)
  unfolding has_page page_with
  last_page e =
      let f : ℕ → Bool = λ i. leb (page_t img b i) root in
      let none : ((j : ℕ) → j < page_count img b → root < page_t img b j) → ⊥ =
      λ g. let all : every (λ j. ltb root (page_t img b j)) (up_to (page_count img b)) ≡ true = all_every (λ j. ltb root (page_t img b j)) (up_to (page_count img b)) (all_up_to (λ j. ltb root (page_t img b j) ≡ true) (page_count img b) (λ j h. lt-ltb root (page_t img b j) (g j h))) in
      let z : false ≡ true = sym (ap not all) ∙ e in
      let w : ◌≡◌ {A = ℕ} 0 1 = cc in
      omega arith in
      let some : 1 ≤ page_count img b = elim (dec_le 1 (page_count img b)) [ yes h ↦ h | no h ↦ absurd (none (λ j k. absurd (omega arith))) ] in
      let within : last_below (page_count img b) f < page_count img b = last_within (page_count img b) f some in
      record {
        in_band = within;
        at = elim (dec_le (page_t img b (last_below (page_count img b) f)) root) [
          | yes h ↦ h
          | no h ↦ absurd (none (λ j k. elim (dec_le (page_t img b j) root) [
            | yes u ↦ absurd (omega (arith, leb-true (page_t img b (last_below (page_count img b) f)) root (last_passes (page_count img b) f j k (le-leb (page_t img b j) root u))))
            | no u ↦ omega arith
          ]))
        ];
        after = λ j k h. leb-false (page_t img b j) root (last_after (page_count img b) f j h k);
      }

  -- so the number is below the next T, and the root is one of the page's
  pub root_before : (i : ℕ) → LastAt img b root i → root < root_count img b → root < next_t img b i
  unfolding next_t
  root_before i l h =
      elim (dec_lt (i + 1) (page_count img b)) [
        | yes k ↦ rw (cond_yes (ltb (i + 1) (page_count img b)) (page_t img b (i + 1)) (root_count img b) (lt-ltb (i + 1) (page_count img b) k)) (l.after (i + 1) (omega arith) k)
        | no k ↦ rw (cond_no (ltb (i + 1) (page_count img b)) (page_t img b (i + 1)) (root_count img b) (le-ltb (i + 1) (page_count img b) (omega arith))) h
      ]
