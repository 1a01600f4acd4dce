-- What the checker's answer says to a job that asks its questions first. Assumes nothing.
use mathlib.Core.Path.{◌≡◌, sym, ap, ◌∙◌}
use mathlib.Core.List.{List, ◌++◌}
use mathlib.Core.Option.{Option, none, some}
use Prim.Native.Nat.{ℕ, ◌≤◌}
use lib.ListN.{length}
use Rattle.format.specs.Seq.{All}
use Rattle.format.specs.Page.{Byte}
use Rattle.format.specs.Image.{key_count, lift_of}
use Rattle.format.specs.Question.{Question, refused, returns, first_no, image_questions, outcome, settle}
use Rattle.format.specs.Answer.{check, lift}
use Rattle.format.specs.Exact as exact
use Rattle.format.proofs.Checked.{checked}
use Rattle.format.proofs.Accepted.{yes_of_returned}
use Rattle.format.proofs.Questions.{after_no, after_yes}

module _ (img : List ℕ) (n : ℕ) where
  -- ---- a refusal

  module _ (e : refused n ≡ check img) where
    pub refused_no : first_no (image_questions img) ≡ some n
    unfolding check settle outcome
    refused_no = go (first_no (image_questions img)) e
      where
        go : (o : Option ℕ) → refused n ≡ outcome o (key_count img) → o ≡ some n
        go none k = cc
        go (some m) k = cc

    -- it is the lift's too
    pub refused_lift : refused n ≡ lift img
    unfolding lift settle outcome
    refused_lift = ap (λ o. outcome o (lift_of img)) (sym refused_no)

    -- it is the job's, whatever the job asks after
    pub refused_job : {A : Type 0} (qs : List Question) (a : A) → refused n ≡ settle (image_questions img ++ qs) a
    unfolding settle outcome
    refused_job qs a = ap (λ o. outcome o a) (sym (after_no (image_questions img) qs n refused_no))

  -- ---- the key count

  module _ (e : returns n ≡ check img) where
    pub returned_count : n ≡ key_count img
    unfolding check settle outcome
    returned_count = go (first_no (image_questions img)) e
      where
        go : (o : Option ℕ) → returns n ≡ outcome o (key_count img) → n ≡ key_count img
        go none k = cc
        go (some m) k = cc

    pub accepted_image : All Byte img → exact.Accepted img
    accepted_image small = record { bytes = small; returned = sym e ∙ ap returns returned_count }

    all_yes : first_no (image_questions img) ≡ none
    all_yes = yes_of_returned img (sym e ∙ ap returns returned_count)

    pub accepted_long : 64 ≤ length img
    accepted_long = (checked img all_yes).header.long

    pub accepted_lift : (m : ℕ) → m ≡ lift_of img → returns m ≡ lift img
    unfolding lift settle outcome
    accepted_lift m em = ap returns em ∙ ap (λ o. outcome o (lift_of img)) (sym all_yes)

    -- the job's own questions decide
    pub accepted_job : {A : Type 0} (qs : List Question) (a : A) → settle (image_questions img ++ qs) a ≡ settle qs a
    unfolding settle
    accepted_job qs a = ap (λ o. outcome o a) (after_yes (image_questions img) qs all_yes)
