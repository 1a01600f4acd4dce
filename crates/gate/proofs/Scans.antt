-- The scan's answer and records, from lookup's answer and what 36, 29 and 21 to 26 then say.
-- Assumes nothing.
use mathlib.Core.Path.{◌≡◌, sym, ap, ◌∙◌}
use mathlib.Core.Bool.{Bool, true, ◌||◌}
use mathlib.Core.Option.{none, some}
use Rattle.std.specs.Prelude.{is_some, unwrap_or}
use mathlib.Core.List.{List}
use Prim.Native.Nat.{ℕ, ◌<◌}
use native.Mathlib.Omega.{arith}
use lib.Dec.{eqb}
use borrow.Author.Tests.{eq-eqb, ne_eqb}
use Rattle.format.specs.Seq.{All, is_in}
use Rattle.format.specs.Page.{Byte}
use Rattle.format.specs.Key.{holder_of}
use Rattle.format.specs.Image.{key_count, keys_of, lift_of}
use Rattle.format.specs.Question.{Outcome, Question, first_no, image_questions, is_zero, outcome, refused, returns, settle}
use Rattle.format.specs.Answer.{listed, lookup, lookup_answer}
use Rattle.format.specs.Scan.{gate_questions, holder_record, lift_fits, lockout_questions, records_after, records_after_scan, scan, scan_questions}
use Rattle.format.proofs.Questions.{after_no, after_yes, yes_of_none}
use Rattle.format.proofs.Jobs.{no_of_refused, yes_of_returns}
use Rattle.format.proofs.Keys.{holder_of_key_of}
use Rattle.format.proofs.LookupAnswers.{image_yes, key, of_absent, of_listed, rank_of, rank_small}
use Rattle.paged_lookup.specs.declared.Found.{Found}
use Rattle.paged_lookup.specs.declared.Found.TheVariants.{Absent, Listed}
use Rattle.paged_lookup.specs.Outcomes.{answer_of, rank_in}

-- 36
module _ (lift : ℕ) (img : List ℕ) (n : ℕ) (e : n ≡ lift_of img) where
  pub fits_none : n ≡ 0 → true ≡ lift_fits lift img
  unfolding lift_fits is_zero
  fits_none z = sym (ap (◌|| eqb (lift_of img) lift) (eq-eqb (lift_of img) 0 (sym e ∙ z)))

  pub fits_own : (n ≡ 0 → ⊥) → eqb n lift ≡ lift_fits lift img
  unfolding lift_fits is_zero
  fits_own h = ap (λ (m : ℕ). eqb m lift) e ∙ sym (ap (◌|| eqb (lift_of img) lift) (ne_eqb (lift_of img) 0 (λ z. h (e ∙ z))))

-- ---- the scan

module _ (lift : ℕ) (img records : List ℕ) (lane holder slot time lockout : ℕ) where
  abbrev own_key : ℕ
  own_key = key img holder slot

  abbrev own-rank : ℕ
  own-rank = rank_of img holder slot

  abbrev pub Done : Outcome ℕ → List ℕ → Type 0
  Done o after = (o ≡ scan lift img records lane holder slot time lockout) × (after ≡ records_after_scan lift img records lane holder slot time lockout)

  -- the records, from the outcome
  done : (o : Outcome ℕ) → o ≡ scan lift img records lane holder slot time lockout → Done o (records_after o (key_count img) records lane time)
  unfolding records_after_scan
  done o e = (e, ap (λ (q : Outcome ℕ). records_after q (key_count img) records lane time) e)

  -- a refused image
  pub image_refused : (n : ℕ) → refused n ≡ lookup img holder slot → Done (refused n) records
  unfolding lookup scan settle outcome records_after
  image_refused n e =
      let first : first_no (image_questions img) ≡ some n = no_of_refused (image_questions img) (lookup_answer img own_key) n (sym e) in
      done (refused n) (sym (ap (λ o. outcome o own-rank) (after_no (image_questions img) (scan_questions lift img records lane own_key time lockout) n first)))

  -- an accepted image, and what lookup found
  module _ (found : Found) (e : returns (answer_of found) ≡ lookup img holder slot) where
    -- the questions of the gate, with what lookup says for 24
    abbrev pub at_gate : List Question
    at_gate = gate_questions (lift_fits lift img) (key_count img) records lane (is_some (rank_in found)) time

    in-list : is_in own_key (keys_of img) ≡ is_some (rank_in found)
    in-list = go found e
      where
        go : (found : Found) → returns (answer_of found) ≡ lookup img holder slot → is_in own_key (keys_of img) ≡ is_some (rank_in found)
        go (Listed rank pages) e = (of_listed img holder slot rank pages (sym e)).0
        go (Absent smaller) e = (of_absent img holder slot smaller (sym e)).0

    scan-is : scan lift img records lane holder slot time lockout ≡ settle (scan_questions lift img records lane own_key time lockout) own-rank
    unfolding scan settle
    scan-is = ap (λ o. outcome o own-rank) (after_yes (image_questions img) _ (image_yes img holder slot (answer_of found) (sym e)))

    asked : first_no at_gate ≡ first_no (gate_questions (lift_fits lift img) (key_count img) records lane (is_in own_key (keys_of img)) time)
    asked = ap (λ (s : Bool). first_no (gate_questions (lift_fits lift img) (key_count img) records lane s time)) (sym in-list)

    -- one of them gets a no
    pub gate_refused : (n : ℕ) → refused n ≡ settle at_gate (unwrap_or (rank_in found) 0) → Done (refused n) records
    unfolding scan_questions settle outcome records_after
    gate_refused n d =
        let no : first_no (gate_questions (lift_fits lift img) (key_count img) records lane (is_in own_key (keys_of img)) time) ≡ some n = sym asked ∙ no_of_refused at_gate _ n (sym d) in
        done (refused n) (sym (scan-is ∙ ap (λ o. outcome o own-rank) (after_no _ (lockout_questions (holder_record img records (holder_of own_key)) time lockout) n no)))

    -- none does: the admission is listed, with that rank
    module _ (rank : ℕ) (d : returns rank ≡ settle at_gate (unwrap_or (rank_in found) 0)) where
      pub gate_yes : first_no at_gate ≡ none
      gate_yes = (yes_of_returns at_gate _ rank (sym d)).0

      is-listed : is_some (rank_in found) ≡ true
      unfolding gate_questions
      is-listed = (yes_of_none at_gate gate_yes).1.1.1.1.1.0

      told : (pages : List ℕ) × (returns (listed rank pages) ≡ lookup img holder slot)
      told = go found e is-listed (yes_of_returns at_gate _ rank (sym d)).1
        where
          go : (found : Found) → returns (answer_of found) ≡ lookup img holder slot → is_some (rank_in found) ≡ true → unwrap_or (rank_in found) 0 ≡ rank → (pages : List ℕ) × (returns (listed rank pages) ≡ lookup img holder slot)
          go (Listed r pages) e t k = (pages, ap (λ (r : ℕ). returns (listed r pages)) (sym k) ∙ e)
          go (Absent smaller) e t k = absurd (let z : ◌≡◌ {A = ℕ} 0 1 = cc in omega arith)

      own-is : rank ≡ own-rank
      own-is = sym (of_listed img holder slot rank told.0 (sym told.1)).1

      pub rank_below : All Byte img → rank < key_count img
      rank_below a = rank_small img holder slot rank told.0 (sym told.1) a

      -- 25 and 26, of the holder's record; n is the key count that the code holds
      pub scanned_yes : (n last : ℕ) → n ≡ key_count img → holder < 65536 → last ≡ holder_record img records holder → (o : Outcome ℕ) (after : List ℕ)
          → (o ≡ settle (lockout_questions last time lockout) rank) × (after ≡ records_after o n records lane time) → Done o after
      unfolding scan_questions settle
      scanned_yes n last k small l o after d =
          let whose : last ≡ holder_record img records (holder_of own_key) = l ∙ ap (holder_record img records) (sym (holder_of_key_of holder slot small)) in
          let passed = scan-is ∙ ap (λ o. outcome o own-rank) (after_yes _ (lockout_questions (holder_record img records (holder_of own_key)) time lockout) (sym asked ∙ gate_yes)) in
          let all = done o (d.0 ∙ (λ i. settle (lockout_questions (whose i) time lockout) (own-is i)) ∙ sym passed) in
          (all.0, d.1 ∙ ap (λ (m : ℕ). records_after o m records lane time) k ∙ all.1)
