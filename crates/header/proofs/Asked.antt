-- The answers to questions 3, 5, 7 and 35 as the code finds them. Assumes nothing.
use mathlib.Core.Path.{◌≡◌, refl, sym, ap, ap₂, ◌∙◌}
use mathlib.Core.Bool.{Bool, true, false, ◌&&◌, ◌||◌}
use mathlib.Core.List.{List}
use Prim.Native.Nat.{ℕ, ◌+◌, ◌-◌, ◌≤◌, ◌<◌}
use native.Mathlib.Omega.{arith}
use borrow.Author.Tests.{eq-eqb, ne_eqb, le-leb, lt-leb}
use lib.Dec.{eqb, leb}
use lib.ListN.{length, take, drop, get_or}
use Rattle.format.specs.Seq.{every, numbers_from}
use Rattle.format.specs.Page.{number_at}
use Rattle.format.specs.Image.{bands, version_of, lift_of, key_count, page_count, root_count}
use Rattle.format.specs.Question.{is_zero, is_positive, is_lift, version_known, zeros_right, lift_right, counts_fit}
use Rattle.format.proofs.Checked.{cond_yes, cond_no}
use Rattle.header.specs.Counts.{counts_positive}
use Rattle.header.proofs.Turns.{every-yes, every_no, numbers_next, zero_counts}

-- ---- 5, byte by byte, 3 and 35

module _ (img : List ℕ) where
  pub zeros_no : (get_or img 5 0 ≡ 0 → ⊥) → false ≡ zeros_right img
  unfolding zeros_right is_zero
  zeros_no h = sym (ap (λ (t : Bool). t && (eqb (version_of img) 2 || eqb (number_at img 40) 0) && every is_zero (take 22 (drop 42 img))) (ne_eqb (get_or img 5 0) 0 h))

  module _ (z : get_or img 5 0 ≡ 0) where
    zeros-rest : zeros_right img ≡ ((eqb (version_of img) 2 || eqb (number_at img 40) 0) && every is_zero (take 22 (drop 42 img)))
    unfolding zeros_right is_zero
    zeros-rest = ap (λ (t : Bool). t && (eqb (version_of img) 2 || eqb (number_at img 40) 0) && every is_zero (take 22 (drop 42 img))) (eq-eqb (get_or img 5 0) 0 z)

    module _ (v : ℕ) (ev : v ≡ version_of img) where
      pub zeros_2 : v ≡ 2 → (t : Bool) → t ≡ every is_zero (take 22 (drop 42 img)) → t ≡ zeros_right img
      zeros_2 h t e = e ∙ sym (zeros-rest ∙ ap (λ (s : Bool). (s || eqb (number_at img 40) 0) && every is_zero (take 22 (drop 42 img))) (eq-eqb (version_of img) 2 (sym ev ∙ h)))

      module _ (h : v ≡ 2 → ⊥) (n : ℕ) (en : n ≡ number_at img 40) where
        zeros-1 : zeros_right img ≡ (eqb (number_at img 40) 0 && every is_zero (take 22 (drop 42 img)))
        zeros-1 = zeros-rest ∙ ap (λ (s : Bool). (s || eqb (number_at img 40) 0) && every is_zero (take 22 (drop 42 img))) (ne_eqb (version_of img) 2 (λ f. h (ev ∙ f)))

        pub zeros_lift : (n ≡ 0 → ⊥) → false ≡ zeros_right img
        zeros_lift f = sym (zeros-1 ∙ ap (◌&& every is_zero (take 22 (drop 42 img))) (ne_eqb (number_at img 40) 0 (λ g. f (en ∙ g))))

        pub zeros_none : n ≡ 0 → (t : Bool) → t ≡ every is_zero (take 22 (drop 42 img)) → t ≡ zeros_right img
        zeros_none f t e = e ∙ sym (zeros-1 ∙ ap (◌&& every is_zero (take 22 (drop 42 img))) (eq-eqb (number_at img 40) 0 (sym en ∙ f)))

module _ (img : List ℕ) (v : ℕ) (ev : v ≡ version_of img) where
  pub known_1 : v ≡ 1 → true ≡ version_known img
  unfolding version_known
  known_1 h = sym (ap (◌|| eqb (version_of img) 2) (eq-eqb (version_of img) 1 (sym ev ∙ h)))

  pub lift_1 : v ≡ 1 → true ≡ lift_right img
  unfolding lift_right
  lift_1 h = sym (ap (◌|| is_lift (lift_of img)) (eq-eqb (version_of img) 1 (sym ev ∙ h)))

  module _ (h : v ≡ 1 → ⊥) where
    pub known_other : version_known img ≡ eqb (version_of img) 2
    unfolding version_known
    known_other = ap (◌|| eqb (version_of img) 2) (ne_eqb (version_of img) 1 (λ f. h (ev ∙ f)))

    pub lift_other : (n : ℕ) → n ≡ lift_of img → is_lift n ≡ lift_right img
    unfolding lift_right
    lift_other n e = ap is_lift e ∙ sym (ap (◌|| is_lift (lift_of img)) (ne_eqb (version_of img) 1 (λ f. h (ev ∙ f))))

-- ---- 7

module _ (img : List ℕ) (b : ℕ) (h : b ≤ 8) (so_far : every (counts_positive img) (numbers_from 2 7) ≡ every (counts_positive img) (numbers_from b (9 - b))) where
  pub positive_no : counts_positive img b ≡ false → false ≡ every (counts_positive img) (numbers_from 2 7)
  positive_no e = sym (so_far ∙ ap (every (counts_positive img)) (numbers_next b 9 (omega arith)) ∙ every_no (counts_positive img) b (numbers_from (b + 1) (9 - (b + 1))) e)

  pub positive_next : counts_positive img b ≡ true → every (counts_positive img) (numbers_from 2 7) ≡ every (counts_positive img) (numbers_from (b + 1) (9 - (b + 1)))
  positive_next e = so_far ∙ ap (every (counts_positive img)) (numbers_next b 9 (omega arith)) ∙ every-yes (counts_positive img) b (numbers_from (b + 1) (9 - (b + 1))) e

module _ (img : List ℕ) (b p : ℕ) (ep : p ≡ page_count img b) where
  pub few_pages : p < 1 → counts_positive img b ≡ false
  unfolding is_positive
  few_pages h = ap (◌&& leb 1 (root_count img b)) (ap (leb 1) (sym ep) ∙ lt-leb 1 p h)

  module _ (hp : 1 ≤ p) (r : ℕ) (er : r ≡ root_count img b) where
    some_pages : leb 1 (page_count img b) ≡ true
    some_pages = ap (leb 1) (sym ep) ∙ le-leb 1 p hp

    pub few_roots : r < 1 → counts_positive img b ≡ false
    unfolding is_positive
    few_roots h = ap₂ ◌&&◌ some_pages (ap (leb 1) (sym er) ∙ lt-leb 1 r h)

    pub some_counts : 1 ≤ r → counts_positive img b ≡ true
    unfolding is_positive
    some_counts h = ap₂ ◌&&◌ some_pages (ap (leb 1) (sym er) ∙ le-leb 1 r h)

-- with key count 0, and without
module _ (img : List ℕ) (k : ℕ) (ek : k ≡ key_count img) where
  pub fit_none : 64 ≤ length img → k ≡ 0 → (z : Bool) → z ≡ every is_zero (take 32 (drop 8 img)) → z ≡ counts_fit img
  unfolding counts_fit bands is_zero
  fit_none h e z ez =
      ez
      ∙ zero_counts img 1 8 8 refl (omega arith)
      ∙ sym (cond_yes (eqb (key_count img) 0) _ _ (eq-eqb (key_count img) 0 (sym ek ∙ e)))

  module _ (some_keys : k ≡ 0 → ⊥) where
    fit-some : counts_fit img ≡ (eqb (page_count img 1) 1 && eqb (root_count img 1) 1 && every (counts_positive img) (numbers_from 2 7))
    unfolding counts_fit is_zero
    fit-some = cond_no (eqb (key_count img) 0) _ _ (ne_eqb (key_count img) 0 (λ e. some_keys (ek ∙ e)))

    module _ (p : ℕ) (ep : p ≡ page_count img 1) where
      pub fit_pages : (p ≡ 1 → ⊥) → false ≡ counts_fit img
      fit_pages n = sym (fit-some ∙ ap (λ (t : Bool). t && eqb (root_count img 1) 1 && every (counts_positive img) (numbers_from 2 7)) (ne_eqb (page_count img 1) 1 (λ e. n (ep ∙ e))))

      module _ (one : p ≡ 1) (r : ℕ) (er : r ≡ root_count img 1) where
        pub fit_roots : (r ≡ 1 → ⊥) → false ≡ counts_fit img
        fit_roots n =
            sym (fit-some
            ∙ ap₂ (λ (s t : Bool). s && t && every (counts_positive img) (numbers_from 2 7)) (eq-eqb (page_count img 1) 1 (sym ep ∙ one)) (ne_eqb (root_count img 1) 1 (λ e. n (er ∙ e))))

        pub fit_rest : r ≡ 1 → (t : Bool) → t ≡ every (counts_positive img) (numbers_from 2 7) → t ≡ counts_fit img
        fit_rest e t et =
            et
            ∙ sym (fit-some ∙ ap₂ (λ (s t : Bool). s && t && every (counts_positive img) (numbers_from 2 7)) (eq-eqb (page_count img 1) 1 (sym ep ∙ one)) (eq-eqb (root_count img 1) 1 (sym er ∙ e)))
