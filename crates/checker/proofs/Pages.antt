-- Questions 8 to 12 of a page asked in order. Assumes nothing.
use mathlib.Core.Path.{◌≡◌, refl, sym, ap, ap₂, subst, ◌∙◌}
use mathlib.Core.Bool.{Bool, true, false, ◌&&◌, cond}
use mathlib.Core.List.{List, []}
use mathlib.Core.Option.{none, some}
use Prim.Native.Nat.{ℕ, ◌+◌, ◌-◌, ◌≤◌}
use native.Mathlib.Omega.{arith}
use borrow.Author.Tests.{eq-eqb, ne_eqb}
use lib.Dec.{eqb}
use Rattle.format.specs.Page.{number_at, pairs_at}
use Rattle.format.specs.Question.{first_no, node_questions, one_to, outcome, questions_from_9, refused, returns, settle}
use Rattle.format.proofs.Questions.{asked_no, asked_yes, range_of}
use Rattle.std.specs.Prelude.{Result}
use Rattle.format.specs.declared.refusal.Refusal.{Refusal}
use Rattle.checker.specs.declared.page.Shape.{Shape}
use Rattle.checker.specs.Paged.{roots_from, questions_after, questions_at, Asked}

-- ---- 9

-- the code's answer
pub roots_refused : (t next : ℕ) → one_to 60 (next - t) ≡ false → refused 9 ≡ roots_from t next
unfolding roots_from settle outcome
roots_refused t next h = ap (λ o. outcome o (next - t)) (sym (asked_no 9 _ [] h))

pub roots_returned : (t next : ℕ) → one_to 60 (next - t) ≡ true → returns (next - t) ≡ roots_from t next
unfolding roots_from settle outcome first_no
roots_returned t next h = ap (λ o. outcome o (next - t)) (sym (asked_yes 9 _ [] h))

-- no root, or more than 60
pub roots_no : (t next n : ℕ) → refused n ≡ roots_from t next → (n ≡ 9) × (one_to 60 (next - t) ≡ false)
unfolding roots_from settle first_no outcome
roots_no t next n e = go (one_to 60 (next - t)) refl e
  where
    go : (x : Bool) → one_to 60 (next - t) ≡ x → refused n ≡ outcome (cond x none (some 9)) (next - t) → (n ≡ 9) × (x ≡ false)
    go false f g = (cc, refl)
    go true f g = absurd cc

-- 1 to 60
pub record RootsYes (t next roots : ℕ) : Type 0 where
  pub is : roots ≡ next - t
  pub some : 1 ≤ roots
  pub few : roots ≤ 60

pub roots_yes : (t next : ℕ) {roots : ℕ} → returns roots ≡ roots_from t next → RootsYes t next roots
unfolding roots_from settle first_no outcome
roots_yes t next {roots} e = go (one_to 60 (next - t)) refl e
  where
    go : (x : Bool) → one_to 60 (next - t) ≡ x → returns roots ≡ outcome (cond x none (some 9)) (next - t) → RootsYes t next roots
    go false f g = absurd cc
    go true f g = let r = range_of 60 (next - t) f in let k : roots ≡ next - t = cc in record { is = k; some = omega arith; few = omega arith }

-- ---- 8 to 12

module _ (img : List ℕ) (at t b next previous : ℕ) where
  module _ (x : ℕ) (ex : x ≡ number_at img at) where
    pub wrong_t : (x ≡ t → ⊥) → some 8 ≡ first_no (questions_at img at t b next previous)
    unfolding questions_at
    wrong_t h = sym (asked_no 8 _ _ (ap (◌&& eqb (number_at img (at + 2)) b) (ne_eqb (number_at img at) t (λ e. h (ex ∙ e)))))

    module _ (right-t : x ≡ t) (y : ℕ) (ey : y ≡ number_at img (at + 2)) where
      pub wrong_b : (y ≡ b → ⊥) → some 8 ≡ first_no (questions_at img at t b next previous)
      unfolding questions_at
      wrong_b h = sym (asked_no 8 _ _ (ap₂ ◌&&◌ (eq-eqb (number_at img at) t (sym ex ∙ right-t)) (ne_eqb (number_at img (at + 2)) b (λ e. h (ey ∙ e)))))

      module _ (right-b : y ≡ b) where
        -- 9 to 12 are left to ask
        past-8 : first_no (questions_at img at t b next previous) ≡ first_no (questions_after img at (next - t) previous)
        unfolding questions_at
        past-8 = asked_yes 8 _ _ (ap₂ ◌&&◌ (eq-eqb (number_at img at) t (sym ex ∙ right-t)) (eq-eqb (number_at img (at + 2)) b (sym ey ∙ right-b)))

        pub no_roots : (n : ℕ) → refused n ≡ roots_from t next → some n ≡ first_no (questions_at img at t b next previous)
        unfolding questions_after questions_from_9 node_questions
        no_roots n e =
            let no = roots_no t next n e in
            ap some no.0 ∙ sym (past-8 ∙ asked_no 9 _ _ no.1)

        pub by_shape : {roots : ℕ} → roots ≡ next - t → (s : Result Shape Refusal) → Asked (questions_after img at roots previous) (pairs_at img at) roots s
            → Asked (questions_at img at t b next previous) (pairs_at img at) (next - t) s
        by_shape e s f =
            let shape = subst (λ (r : ℕ). Asked (questions_after img at r previous) (pairs_at img at) r s) e f in
            record { first_no_is = shape.first_no_is ∙ sym past-8; counted = shape.counted; bounded = shape.bounded }
