-- Holders over any history of scans of one image: a holder's record is told by the openings of the holder's admissions, and a scan opens exactly when it should.
-- Assumes nothing.
use mathlib.Core.Path.{◌≡◌, refl, sym, ap, subst, ◌∙◌}
use mathlib.Core.Bool.{Bool, true, false, ◌&&◌}
use mathlib.Core.Option.{Option}
use mathlib.Core.List.{List, [], ◌∷◌, ◌++◌}
use Prim.Native.Nat.{ℕ, suc, ◌+◌, ◌-◌, ◌≤◌}
use native.Mathlib.Omega.{arith}
use lib.Dec.{eqb}
use borrow.Author.Tests.{eqb-true}
use Rattle.format.specs.Seq.{All, cons_if, is_in, select}
use Rattle.format.specs.Key.{holder_of}
use Rattle.format.specs.Page.{Byte}
use Rattle.format.specs.Image.{key_count, keys_of}
use Rattle.format.specs.Question.{Yes}
use Rattle.format.specs.Scan.{gate_questions, holder_record, lift_fits, lockout_questions, opened, records_length, scan_questions}
use Rattle.format.specs.History.{Card, Opening, after_card, after_cards, holder_on, key_on, no_records, opening_at, opening_of, openings, record_after, scan_of}
use Rattle.format.specs.Holders.{Bring, Holders, NonDecreasing, Told, has_run, last_time, of_holder, openings_since, records_since, time_in}
use Rattle.format.proofs.Lists.{all_right}
use Rattle.format.proofs.Members.{select-append}
use Rattle.format.proofs.Checked.{checked}
use Rattle.format.proofs.Back.{listed}
use Rattle.format.proofs.Descent.{mem-is_in}
use Rattle.format.proofs.Histories.{ScanYes, opened-facts, opened_rank, opens_listed, record_append, record_one, scan_does}
use Rattle.format.proofs.Opens.{opens-is, right_le}
use Rattle.format.proofs.Holders.{Renewed, holder_after, holder_zeros}

-- ---- one scan

module _ {lift : ℕ} {img records : List ℕ} {lane key time lockout rank : ℕ} (o : ScanYes lift img records lane key time lockout rank) (a : All Byte img) where
  -- what it does to records
  renewed : Renewed img records (opened (key_count img) records lane rank time) key time
  unfolding scan_questions lockout_questions
  renewed =
      let keys = (listed img a (checked img o.image_yes)).keys in
      record {
        asc = keys.asc;
        listed = mem-is_in key (keys_of img) (opens_listed o);
        before = right_le (holder_record img records (holder_of key)) time (all_right Yes (gate_questions (lift_fits lift img) (key_count img) records lane (is_in key (keys_of img)) time) _ o.scan_yes).0;
        ranks = λ r h. rw o.rank_is (opened_rank (key_count img) records rank lane time (opened-facts o a) r (omega (arith, keys.count_is)));
      }

-- of one opening or none
times_one : (t : Bool) (h : ℕ) (o : Opening) → (t ≡ true → h ≤ o.time) → NonDecreasing h (cons_if t o [])
unfolding cons_if
times_one true h o f = (f refl, tt)
times_one false h o f = tt

-- after one scan
one_card : (card : Card) → All Byte card.image → (records : List ℕ) (holder : ℕ)
    → Told (holder_record card.image records holder) (of_holder holder (opening_of (scan_of records card) card)) (holder_record card.image (after_card records card) holder)
unfolding of_holder select record_after
one_card card a records holder =
    let x = holder_record card.image records holder in
    scan_does records card (λ os after. Told (holder_record card.image records holder) (of_holder holder os) (holder_record card.image after holder)) record { record_is = refl; times = tt }
    (λ rank y.
    let o = renewed y a in
    let right : eqb (holder_on card) holder ≡ true → holder_record card.image records holder - 1 ≤ card.time =
    λ t. omega (arith, o.before, ap (holder_record card.image records) (eqb-true (holder_on card) holder t)) in
    record {
      record_is = holder_after o holder ∙ record_one (eqb (holder_on card) holder) x (opening_at rank card);
      times = times_one (eqb (holder_on card) holder) (x - 1) (opening_at rank card) right;
    })

-- ---- any history

-- of openings after others
times_append : (h : ℕ) (os ps : List Opening) → NonDecreasing (h - 1) os → NonDecreasing (record_after h os - 1) ps → NonDecreasing (h - 1) (os ++ ps)
unfolding record_after
times_append h [] ps r s = s
times_append h (o ∷ os) ps r s =
    let e : o.time + 1 - 1 ≡ o.time = omega arith in
    (r.0, subst (λ (t : ℕ). NonDecreasing t (os ++ ps)) e (times_append (o.time + 1) os ps (subst (λ (t : ℕ). NonDecreasing t os) (sym e) r.1) s))

-- after all cards
all_cards : (img : List ℕ) → All Byte img → (records : List ℕ) (cards : List Card) → Bring img cards → (holder : ℕ)
    → Told (holder_record img records holder) (of_holder holder (openings records cards)) (holder_record img (after_cards records cards) holder)
unfolding after_cards openings of_holder
all_cards img a records [] b holder = unfold select record_after in record { record_is = refl; times = tt }
all_cards img a records (card ∷ cards) b holder =
    let first = opening_of (scan_of records card) card in
    let later = openings (after_card records card) cards in
    let x = holder_record img records holder in
    let one : Told (holder_record img records holder) (of_holder holder (opening_of (scan_of records card) card)) (holder_record img (after_card records card) holder) =
    subst (λ (i : List ℕ). Told (holder_record i records holder) (of_holder holder (opening_of (scan_of records card) card)) (holder_record i (after_card records card) holder)) b.0
    (one_card card (subst (All Byte) (sym b.0) a) records holder) in
    let rest = all_cards img a (after_card records card) cards b.1 holder in
    let both = select-append (λ o. eqb o.holder holder) first later in
    record {
      record_is = rest.record_is ∙ ap (λ (y : ℕ). record_after y (of_holder holder later)) one.record_is ∙ sym (ap (record_after x) both ∙ record_append x (of_holder holder first) (of_holder holder later));
      times = subst (NonDecreasing (x - 1)) (sym both) (times_append x (of_holder holder first) (of_holder holder later) one.times (subst (λ (y : ℕ). NonDecreasing (y - 1) (of_holder holder later)) one.record_is rest.times));
    }

-- ---- the statement

-- no holder has a record yet
zeros_record : (img : List ℕ) (holder : ℕ) → holder_record img (no_records (key_count img)) holder ≡ 0
unfolding no_records
zeros_record img holder = holder_zeros img (records_length (key_count img)) holder

-- from a buffer of zeros
told_zeros : (img : List ℕ) → All Byte img → (cards : List Card) → Bring img cards → (holder : ℕ) → Told 0 (openings_since img cards holder) (holder_record img (records_since img cards) holder)
told_zeros img a cards b holder =
    subst (λ (x : ℕ). Told x (openings_since img cards holder) (holder_record img (records_since img cards) holder)) (zeros_record img holder) (all_cards img a (no_records (key_count img)) cards b holder)

-- a record tells the last of its openings
record_last : (os : List Opening) → last_time os ≡ time_in (record_after 0 os)
unfolding last_time time_in record_after
record_last [] = refl
record_last (o ∷ []) = ap time_in (let e : suc o.time ≡ o.time + 1 = omega arith in e)
record_last (o ∷ p ∷ os) = record_last (p ∷ os)

-- the holder's record, from a buffer of zeros, tells the holder's last opening
pub last_told : (img : List ℕ) → All Byte img → (cards : List Card) → Bring img cards → (holder : ℕ) → last_time (openings_since img cards holder) ≡ time_in (holder_record img (records_since img cards) holder)
last_told img a cards b holder = record_last (openings_since img cards holder) ∙ sym (ap time_in (told_zeros img a cards b holder).record_is)

pub holders : Holders
unfolding record_after
holders img a = record {
  from_zeros = told_zeros img a;
  recorded = all_cards img a;
  lockout_not_restarted = λ records cards b holder none-opens. (all_cards img a records cards b holder).record_is ∙ ap (record_after (holder_record img records holder)) none-opens;
  opens_exactly = λ cards b card e y.
      let key = key_on card in
      opens-is (records_since img cards) card y
      ∙ ap (λ (i : List ℕ). is_in key (keys_of i) && has_run card.lockout card.time (time_in (holder_record i (records_since img cards) (holder_on card)))) e
      ∙ ap (λ (last : Option ℕ). is_in key (keys_of img) && has_run card.lockout card.time last) (sym (last_told img a cards b (holder_on card)));
}
