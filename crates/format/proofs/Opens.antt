-- When a scan opens, over any records: where no question before 24 refuses, 24 to 26 decide.
-- Assumes nothing.
use mathlib.Core.Path.{◌≡◌, refl, sym, ap, ◌∙◌}
use mathlib.Core.Bool.{Bool, true, false, ◌&&◌, cond}
use mathlib.Core.List.{List, [], ◌∷◌, ◌++◌}
use Prim.Native.Nat.{ℕ, zero, suc, ◌+◌, ◌≤◌, ◌<◌}
use native.Mathlib.Nat.{suc-add}
use native.Mathlib.Numerals.{add-one}
use native.Mathlib.Omega.{arith}
use native.Mathlib.Decide.{dec_le}
use lib.Dec.{leb, ltb, eqb-suc-zero, leb-suc-suc}
use borrow.Author.Tests.{le-leb, lt-leb, leb-true, le-ltb, lt-ltb}
use Rattle.format.specs.Seq.{All, is_in, rank_in}
use Rattle.format.specs.Image.{key_count, keys_of}
use Rattle.format.specs.Question.{Question, Yes, first_no, image_questions, is_zero, outcome, refused, returns, settle}
use Rattle.format.specs.Scan.{gate_questions, holder_record, lift_fits, lockout_over, lockout_questions, scan, scan_questions, time_right}
use Rattle.format.specs.History.{Card, holder_on, key_on, scan_of}
use Rattle.format.specs.Holders.{Asked24, has_run, opens, time_in}
use Rattle.format.proofs.Lists.{all_left, all_right}
use Rattle.format.proofs.Questions.{after_yes, none_of_yes}

-- ---- 25 and 26, of a record

-- answered one after the other
module _ (x time lockout rank : ℕ) where
  pub no_25 : time_right x time ≡ false → refused 25 ≡ settle (lockout_questions x time lockout) rank
  unfolding lockout_questions settle outcome first_no
  no_25 h = rw h

  module _ (right : time_right x time ≡ true) where
    pub no_26 : lockout_over x time lockout ≡ false → refused 26 ≡ settle (lockout_questions x time lockout) rank
    unfolding lockout_questions settle outcome first_no
    no_26 h = rw (right, h)

    pub both_yes : lockout_over x time lockout ≡ true → returns rank ≡ settle (lockout_questions x time lockout) rank
    unfolding lockout_questions settle outcome first_no
    both_yes h = rw (right, h)

module _ (last time : ℕ) where
  -- of a record that tells an opening
  right-told : time_right (suc last) time ≡ leb last time
  unfolding time_right is_zero
  right-told = rw (eqb-suc-zero last, add-one) (leb-suc-suc last time)

  over-told : (lockout : ℕ) → lockout_over (suc last) time lockout ≡ leb (last + lockout) time
  unfolding lockout_over is_zero
  over-told lockout = rw (eqb-suc-zero last, suc-add, add-one) (leb-suc-suc (last + lockout) time)

  -- both get a yes once the lockout has run, and before that 25 or 26 a no
  pub run_returns : (lockout rank : ℕ) → last + lockout ≤ time → settle (lockout_questions (suc last) time lockout) rank ≡ returns rank
  run_returns lockout rank h = sym (both_yes (suc last) time lockout rank (right-told ∙ le-leb last time (omega arith)) (over-told lockout ∙ le-leb (last + lockout) time h))

  pub early_refused : (lockout rank : ℕ) → time < last + lockout → settle (lockout_questions (suc last) time lockout) rank ≡ refused (cond (ltb time last) 25 26)
  early_refused lockout rank h =
      elim (dec_le last time) [
        | yes late ↦ rw (le-ltb time last late) (sym (no_26 (suc last) time lockout rank (right-told ∙ le-leb last time late) (over-told lockout ∙ lt-leb (last + lockout) time h)))
        | no late ↦ rw (lt-ltb time last (omega arith)) (sym (no_25 (suc last) time lockout rank (right-told ∙ lt-leb last time (omega arith))))
      ]

-- 25: a record is at most the time + 1
pub right_le : (x time : ℕ) → time_right x time ≡ true → x ≤ time + 1
right_le zero time h = omega arith
right_le (suc last) time h = let le : last ≤ time = leb-true last time (sym (right-told last time) ∙ h) in omega arith

-- 26 gets no yes where 25 gets a no
over_right : (x time lockout : ℕ) → lockout_over x time lockout ≡ true → time_right x time ≡ true
over_right zero time lockout h = unfold time_right is_zero in refl
over_right (suc last) time lockout h =
    let le : last + lockout ≤ time = leb-true (last + lockout) time (sym (over-told last time lockout) ∙ h) in
    right-told last time ∙ le-leb last time (omega arith)

-- 26 in the words of a history
over_run : (x time lockout : ℕ) → lockout_over x time lockout ≡ has_run lockout time (time_in x)
unfolding has_run time_in
over_run zero time lockout = unfold lockout_over is_zero in refl
over_run (suc last) time lockout = over-told last time lockout

-- ---- the scan

-- 24 is the first that can refuse
from_24 : (fits : Bool) (n : ℕ) (records : List ℕ) (lane time : ℕ) → All Yes (gate_questions fits n records lane true time) → (t : Bool) (qs : List Question)
    → first_no (gate_questions fits n records lane t time ++ qs) ≡ first_no ((24, t) ∷ qs)
unfolding gate_questions first_no
from_24 fits n records lane time y t qs = rw (y.0, y.1.0, y.1.1.0, y.1.1.1.0, y.1.1.1.1.0)

-- 24 to 26 decide
opens_three : (t s u : Bool) (rank : ℕ) → (u ≡ true → s ≡ true) → opens (settle ((24, t) ∷ (25, s) ∷ (26, u) ∷ []) rank) ≡ (t && u)
unfolding settle first_no outcome opens
opens_three false s u rank f = refl
opens_three true true true rank f = refl
opens_three true true false rank f = refl
opens_three true false true rank f = f refl
opens_three true false false rank f = refl

module _ (records : List ℕ) (card : Card) (y : Asked24 records card) where
  abbrev listed : Bool
  listed = is_in (key_on card) (keys_of card.image)

  abbrev holders-record : ℕ
  holders-record = holder_record card.image records (holder_on card)

  -- the scan's outcome, from 24 on
  pub scan-from_24 : scan_of records card ≡ settle ((24, listed) ∷ lockout_questions holders-record card.time card.lockout) (rank_in (keys_of card.image) (key_on card))
  unfolding scan scan_questions settle
  scan-from_24 =
      let img = card.image in
      ap (λ o. outcome o (rank_in (keys_of img) (key_on card)))
      (after_yes (image_questions img) _ (none_of_yes (image_questions img) (all_left Yes (image_questions img) _ y))
      ∙ from_24 (lift_fits card.lift img) (key_count img) records card.lane card.time (all_right Yes (image_questions img) _ y) listed (lockout_questions holders-record card.time card.lockout))

  -- it opens where the admission is listed and the lockout has run
  pub opens-is : opens (scan_of records card) ≡ (listed && has_run card.lockout card.time (time_in holders-record))
  unfolding lockout_questions
  opens-is =
      ap opens scan-from_24
      ∙ opens_three listed (time_right holders-record card.time) (lockout_over holders-record card.time card.lockout) _ (over_right holders-record card.time card.lockout)
      ∙ ap (listed &&◌) (over_run holders-record card.time card.lockout)
