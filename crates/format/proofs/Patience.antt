-- A card that is refused with 26 opens once the lockout has run since the holder's last opening, and no earlier, if none of the holder's admissions opens
-- meanwhile. The statement is specs/Patience.antt.
-- Assumes nothing.
use mathlib.Core.Path.{◌≡◌, refl, sym, ap, subst, ◌∙◌}
use mathlib.Core.Bool.{true, false}
use mathlib.Core.Option.{some}
use mathlib.Core.List.{List, ◌∷◌, ◌++◌, flat_map}
use Prim.Native.Nat.{ℕ, zero, suc}
use native.Mathlib.Omega.{arith}
use lib.Dec.{eqb}
use borrow.Author.Tests.{eq-eqb, lt-ltb}
use lib.ListN.{length}
use Rattle.format.specs.Seq.{All, is_in, rank_in, up_to}
use Rattle.format.specs.Page.{Byte}
use Rattle.format.specs.Image.{bands, key_count, keys_of, page_count}
use Rattle.format.specs.Question.{Question, Yes, band_questions, first_no, header_questions, image_questions, is_zero, node_questions, outcome, page_questions, questions_from_9, settle}
use Rattle.format.specs.Scan.{gate_questions, holder_record, largest32, lift_fits, lockout_over, lockout_questions, records_length, scan, scan_questions, time_right}
use Rattle.format.specs.History.{Card, after_cards, holder_on, key_on}
use Rattle.format.specs.Holders.{Asked24, records_since, time_in}
use Rattle.format.specs.Patience.{FirstMoment, Granted, LockedOut, Patience, again, scan_again}
use Rattle.format.proofs.Lists.{all_append, all_flat_map, all_to, all_numbers, all_up_to}
use Rattle.format.proofs.Questions.{asked_yes, others_yes}
use Rattle.format.proofs.Jobs.{no_of_refused}
use Rattle.format.proofs.Histories.{history, is_listed, records_fit}
use Rattle.format.proofs.Opens.{early_refused, run_returns, scan-from_24}
use Rattle.format.proofs.HolderHistories.{holders, last_told}

-- ---- what a refusal with 26 tells

-- no question of an image has that number
module _ (img : List ℕ) where
  abbrev Other : Question → Type 0
  Other q = eqb q.0 26 ≡ false

  image-numbers : All Other (image_questions img)
  unfolding image_questions header_questions band_questions page_questions questions_from_9 node_questions bands
  image-numbers =
      all_append Other (header_questions img) (flat_map (band_questions img) bands)
      (refl, (refl, (refl, (refl, (refl, (refl, (refl, (refl, tt))))))))
      (all_flat_map (band_questions img) Other bands (all_numbers (λ b. All Other (band_questions img b)) 1 8 (λ b lo hi.
      all_append Other (flat_map (page_questions img b) (up_to (page_count img b))) _
      (all_flat_map (page_questions img b) Other (up_to (page_count img b)) (all_up_to (λ i. All Other (page_questions img b i)) (page_count img b)
      (λ i h. (refl, (refl, (refl, (refl, (refl, tt))))))))
      (refl, tt))))

-- each question before 26 got a yes
record Before26 (records : List ℕ) (card : Card) : Type 0 where
  image_yes : All Yes (image_questions card.image)
  gate_yes : All Yes (gate_questions (lift_fits card.lift card.image) (key_count card.image) records card.lane (is_in (key_on card) (keys_of card.image)) card.time)
  then_26 : first_no (lockout_questions (holder_record card.image records (holder_on card)) card.time card.lockout) ≡ some 26

before_26 : {records : List ℕ} {card : Card} → LockedOut records card → Before26 records card
unfolding scan scan_questions gate_questions
before_26 {records} {card} l =
    let img = card.image in
    let first_no_is = no_of_refused (image_questions img ++ scan_questions card.lift img records card.lane (key_on card) card.time card.lockout) (rank_in (keys_of img) (key_on card)) 26 l in
    let (image_yes, gate-no) = others_yes (image_questions img) _ 26 (image-numbers img) first_no_is in
    let (gate_yes, then_26) =
    others_yes (gate_questions (lift_fits card.lift img) (key_count img) records card.lane (is_in (key_on card) (keys_of img)) card.time) _ 26
    (refl, (refl, (refl, (refl, (refl, (refl, tt)))))) gate-no in
    record { image_yes = image_yes; gate_yes = gate_yes; then_26 = then_26 }

-- ---- the scan again

module _ {records : List ℕ} {card : Card} (a : All Byte card.image) (l : LockedOut records card) {between : List Card} {lane time : ℕ} (g : Granted records card between lane time) where
  abbrev img : List ℕ
  img = card.image

  abbrev later : List ℕ
  later = after_cards records (card ∷ between)

  -- the buffer is as long as it was, so that 21 gets a yes again
  size : length later ≡ records_length (key_count img)
  size =
      let fit = records_fit (lift_fits card.lift img) (key_count img) records card.lane (is_in (key_on card) (keys_of img)) card.time (before_26 l).gate_yes in
      (history.recorded (key_count img) records fit.size (card ∷ between) (a, all_to (λ c. c.image ≡ img) (λ c. All Byte c.image) (λ c e. subst (All Byte) (sym e) a) between g.one_image)).size ∙ fit.size

  -- no question before 24 refuses
  asked : Asked24 later (again card lane time)
  unfolding gate_questions
  asked =
      let before = before_26 l in
      all_append Yes (image_questions img) _ before.image_yes
      (before.gate_yes.0, (g.ends.lane_valid, (eq-eqb (length later) (records_length (key_count img)) size, (lt-ltb time largest32 g.ends.time_below, (lt-ltb _ largest32 g.ends.count_below, (refl, tt))))))

  -- the admission is listed
  still-listed : is_in (key_on card) (keys_of img) ≡ true
  still-listed = is_listed (lift_fits card.lift img) (key_count img) records card.lane (is_in (key_on card) (keys_of img)) card.time (before_26 l).gate_yes

  -- the holder's record is as it was
  kept : holder_record img later (holder_on card) ≡ holder_record img records (holder_on card)
  kept = (holders img a).lockout_not_restarted records (card ∷ between) (refl, g.one_image) (holder_on card) g.none_opened

  -- 25 and 26 decide, over the record that they looked at when they refused
  again-told : {x : ℕ} → holder_record img records (holder_on card) ≡ x → scan_again records card between lane time ≡ settle (lockout_questions x time card.lockout) (rank_in (keys_of img) (key_on card))
  unfolding settle
  again-told told =
      scan-from_24 later (again card lane time) asked
      ∙ ap (λ o. outcome o (rank_in (keys_of img) (key_on card)))
      (asked_yes 24 (is_in (key_on card) (keys_of img)) _ still-listed ∙ ap (λ (x : ℕ). first_no (lockout_questions x time card.lockout)) (kept ∙ told))

-- ---- the statement

-- from any records: who never opened gets no 26
from_records : (records : List ℕ) (card : Card) → All Byte card.image → LockedOut records card → FirstMoment records card (time_in (holder_record card.image records (holder_on card)))
from_records records card a l = go (holder_record card.image records (holder_on card)) refl (before_26 l).then_26
  where
    go : (x : ℕ) → holder_record card.image records (holder_on card) ≡ x → first_no (lockout_questions x card.time card.lockout) ≡ some 26 → FirstMoment records card (time_in x)
    go zero told then_26 = absurd (unfold lockout_questions first_no time_right lockout_over is_zero in let z : ◌≡◌ {A = ℕ} 0 1 = cc in omega arith)
    go (suc last) told then_26 = unfold time_in in record {
      last = last;
      last_is = refl;
      gets_through = λ between lane time g h. again-told a l g told ∙ run_returns last time card.lockout _ h;
      too_early = λ between lane time g h. again-told a l g told ∙ early_refused last time card.lockout _ h;
    }

-- from zeros: the holder's record tells the holder's last opening
pub patience : Patience
patience = record {
  from_zeros = λ before card a b l.
      subst (FirstMoment (records_since card.image before) card) (sym (last_told card.image a before b (holder_on card))) (from_records (records_since card.image before) card a l);
  from_any = from_records;
}
