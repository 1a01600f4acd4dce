-- Records and counts by lane after any history of scans: they are told by the openings alone, and a refused scan changes nothing.
-- Assumes nothing.
use mathlib.Core.Path.{◌≡◌, refl, sym, ap, ◌∙◌}
use mathlib.Core.Bool.{Bool, true, false, cond}
use mathlib.Core.Option.{none}
use mathlib.Core.List.{List, [], ◌∷◌, ◌++◌}
use Prim.Native.Nat.{ℕ, ◌+◌, ◌≤◌, ◌<◌}
use native.Mathlib.Omega.{arith}
use native.Mathlib.Decide.{ℕ_discrete}
use lib.Dec.{eqb}
use borrow.Author.Tests.{eq-eqb, ne_eqb, eqb-true, ltb-true}
use lib.ListN.{length, get_or, set, get_or-replicate, length-append, length-replicate, length-set}
use lib.Seq.{get_or-set_same, get_or-set_other}
use Rattle.format.specs.Seq.{All, cons_if, is_in, rank_in, select}
use Rattle.format.specs.Key.{key_of}
use Rattle.format.specs.Page.{Byte}
use Rattle.format.specs.Image.{key_count, keys_of}
use Rattle.format.specs.Question.{Outcome, Yes, first_no, image_questions, refused, returns}
use Rattle.format.specs.Scan.{RecordsFit, gate_questions, is_lane, lane_place, largest32, lift_fits, opened, records_after, records_after_scan, records_length, scan, scan_questions}
use Rattle.format.specs.History.{Card, History, Images, Opening, Recorded, after_card, after_cards, at_rank, in_lane, key_on, no_records, opening_at, opening_of, openings, record_after, scan_of}
use Rattle.format.proofs.Lists.{all_left, all_right}
use Rattle.format.proofs.Questions.{none_of_yes, range_of, yes_of_none}
use Rattle.format.proofs.Members.{select-append}
use Rattle.format.proofs.Checked.{checked, cond_no, cond_yes}
use Rattle.format.proofs.Back.{listed}
use Rattle.format.proofs.Jobs.{yes_of_returns}
use Rattle.format.proofs.Descent.{at_rank_lem, mem-is_in}

-- ---- one scan

-- a lane's number
pub lane_range : (lane : ℕ) → is_lane lane ≡ true → (1 ≤ lane) × (lane ≤ 8)
unfolding is_lane
lane_range lane h = range_of 8 lane h

-- what a yes to 29 and 21 to 23 says of the lane, the records and the time
module _ (fits : Bool) (keys : ℕ) (records : List ℕ) (lane : ℕ) (listed : Bool) (time : ℕ) where
  pub records_fit : All Yes (gate_questions fits keys records lane listed time) → RecordsFit keys records lane time
  unfolding gate_questions
  records_fit y = record {
    size = eqb-true (length records) (records_length keys) y.1.1.0;
    ends = record {
      lane_valid = y.1.0;
      count_below = ltb-true (get_or records (lane_place keys lane) 0) largest32 y.1.1.1.1.0;
      time_below = ltb-true time largest32 y.1.1.1.0;
    };
  }

  -- and one to 24
  pub is_listed : All Yes (gate_questions fits keys records lane listed time) → listed ≡ true
  unfolding gate_questions
  is_listed y = y.1.1.1.1.1.0

-- the rank of a listed key is below the key count
pub listed_rank : (img : List ℕ) → All Byte img → first_no (image_questions img) ≡ none → (key : ℕ) → is_in key (keys_of img) ≡ true → rank_in (keys_of img) key < key_count img
listed_rank img a y key h =
    let keys = (listed img a (checked img y)).keys in
    omega (arith, (at_rank_lem (keys_of img) key keys.asc (mem-is_in key (keys_of img) h)).within, keys.count_is)

-- a scan that opens: each of its questions got a yes, and its rank
pub record ScanYes (lift : ℕ) (img records : List ℕ) (lane key time lockout rank : ℕ) : Type 0 where
  pub image_yes : first_no (image_questions img) ≡ none
  pub scan_yes : All Yes (scan_questions lift img records lane key time lockout)
  pub rank_is : rank_in (keys_of img) key ≡ rank

-- from its outcome
opens-facts : (lift : ℕ) (img records : List ℕ) (lane holder slot time lockout rank : ℕ) → scan lift img records lane holder slot time lockout ≡ returns rank
    → ScanYes lift img records lane (key_of holder slot) time lockout rank
unfolding scan
opens-facts lift img records lane holder slot time lockout rank e =
    let key = key_of holder slot in
    let (none-no, same) = yes_of_returns (image_questions img ++ scan_questions lift img records lane key time lockout) (rank_in (keys_of img) key) rank e in
    let yes_all = yes_of_none (image_questions img ++ scan_questions lift img records lane key time lockout) none-no in
    record {
      image_yes = none_of_yes (image_questions img) (all_left Yes (image_questions img) _ yes_all);
      scan_yes = all_right Yes (image_questions img) _ yes_all;
      rank_is = same;
    }

-- what a scan does: a refused one is no opening and leaves the records as they were, any other is recorded at its rank
pub scan_does : (records : List ℕ) (card : Card) (P : List Opening → List ℕ → Type 0) → P [] records
    → ((rank : ℕ) → ScanYes card.lift card.image records card.lane (key_on card) card.time card.lockout rank
    → P (opening_at rank card ∷ []) (opened (key_count card.image) records card.lane rank card.time))
    → P (opening_of (scan_of records card) card) (after_card records card)
unfolding records_after_scan
scan_does records card P none-opens Opens-at =
    go (scan_of records card) (λ rank e. Opens-at rank (opens-facts card.lift card.image records card.lane card.holder card.slot card.time card.lockout rank e))
  where
    go : (o : Outcome ℕ) → ((rank : ℕ) → o ≡ returns rank → P (opening_at rank card ∷ []) (opened (key_count card.image) records card.lane rank card.time))
        → P (opening_of o card) (records_after o (key_count card.image) records card.lane card.time)
    go (refused k) f = unfold opening_of records_after in none-opens
    go (returns rank) f = unfold opening_of records_after in f rank refl

-- what is known of an opening
pub record OpeningFits (n : ℕ) (records : List ℕ) (rank lane : ℕ) : Type 0 where
  rank_small : rank < n
  size : length records ≡ records_length n
  lane_valid : is_lane lane ≡ true

module _ {lift : ℕ} {img records : List ℕ} {lane key time lockout rank : ℕ} (o : ScanYes lift img records lane key time lockout rank) where
  -- 36, 29 and 21 to 24 got a yes
  gate_yes : All Yes (gate_questions (lift_fits lift img) (key_count img) records lane (is_in key (keys_of img)) time)
  unfolding scan_questions
  gate_yes = all_left Yes (gate_questions (lift_fits lift img) (key_count img) records lane (is_in key (keys_of img)) time) _ o.scan_yes

  -- the admission is listed
  pub opens_listed : is_in key (keys_of img) ≡ true
  opens_listed = is_listed (lift_fits lift img) (key_count img) records lane (is_in key (keys_of img)) time gate_yes

  -- its rank, the records and the lane
  pub opened-facts : All Byte img → OpeningFits (key_count img) records rank lane
  opened-facts a =
      let fit = records_fit (lift_fits lift img) (key_count img) records lane (is_in key (keys_of img)) time gate_yes in
      record {
        rank_small = omega (arith, listed_rank img a o.image_yes key opens_listed, o.rank_is);
        size = fit.size;
        lane_valid = fit.ends.lane_valid;
      }

-- ---- the records after an opening

module _ (n : ℕ) (records : List ℕ) (rank lane time : ℕ) (o : OpeningFits n records rank lane) where
  abbrev after : List ℕ
  after = opened n records lane rank time

  -- as many as before
  opened-size : length after ≡ length records
  unfolding opened
  opened-size = length-set (set records rank (time + 1)) (lane_place n lane) (get_or records (lane_place n lane) 0 + 1) ∙ length-set records rank (time + 1)

  -- time + 1 at the rank, and the other ranks' records as they were
  pub opened_rank : (r : ℕ) → r < n → get_or after r 0 ≡ cond (eqb rank r) (time + 1) (get_or records r 0)
  unfolding opened
  opened_rank r h =
      get_or-set_other (set records rank (time + 1)) (lane_place n lane) r (get_or records (lane_place n lane) 0 + 1) 0 (λ e. omega arith)
      ∙ elim (ℕ_discrete rank r) [
        | yes e ↦ ap (λ (q : ℕ). get_or (set records q (time + 1)) r 0) e ∙ get_or-set_same records r (time + 1) 0 (omega (arith, o.size)) ∙ sym (cond_yes (eqb rank r) _ _ (eq-eqb rank r e))
        | no e ↦ get_or-set_other records rank r (time + 1) 0 (λ d. e (sym d)) ∙ sym (cond_no (eqb rank r) _ _ (ne_eqb rank r e))
      ]

  -- one more in the lane, and the other lanes' counts as they were
  opened-lane : (l : ℕ) → is_lane l ≡ true → get_or after (lane_place n l) 0 ≡ get_or records (lane_place n l) 0 + cond (eqb lane l) 1 0
  unfolding opened
  opened-lane l h =
      let from = lane_range l h in
      elim (ℕ_discrete lane l) [
        | yes e ↦ ap (λ (q : ℕ). get_or (set (set records rank (time + 1)) (lane_place n q) (get_or records (lane_place n q) 0 + 1)) (lane_place n l) 0) e
            ∙ get_or-set_same (set records rank (time + 1)) (lane_place n l) (get_or records (lane_place n l) 0 + 1) 0 (omega (arith, from, length-set records rank (time + 1), o.size))
            ∙ ap (get_or records (lane_place n l) 0 +◌) (sym (cond_yes (eqb lane l) 1 0 (eq-eqb lane l e)))
        | no e ↦ get_or-set_other (set records rank (time + 1)) (lane_place n lane) (lane_place n l) (get_or records (lane_place n lane) 0 + 1) 0 (λ d. e (omega (arith, from, lane_range lane o.lane_valid)))
            ∙ get_or-set_other records rank (lane_place n l) (time + 1) 0 (λ d. omega (arith, o.rank_small))
            ∙ omega (arith, cond_no {A = ℕ} (eqb lane l) 1 0 (ne_eqb lane l e))
      ]

-- ---- any history

-- a list of one element or none
pub record_one : (t : Bool) (x : ℕ) (o : Opening) → cond t (o.time + 1) x ≡ record_after x (cons_if t o [])
unfolding cons_if record_after
record_one true x o = refl
record_one false x o = refl

length_one : (t : Bool) (o : Opening) → cond t 1 0 ≡ length (cons_if t o [])
unfolding cons_if
length_one true o = refl
length_one false o = refl

module _ (n : ℕ) where
  -- after one scan: an image that opens has n keys
  one-scan : (records : List ℕ) → length records ≡ records_length n → (card : Card) → All Byte card.image → Recorded n records (opening_of (scan_of records card) card) (after_card records card)
  unfolding record_after at_rank in_lane select
  one-scan records size card a =
      scan_does records card (Recorded n records) record { size = refl; lanes = λ l h. omega arith; ranks = λ r h. refl }
      (λ rank y.
      let f = opened-facts y a in
      let same : key_count card.image ≡ n = omega (arith, f.size, size) in
      let o : OpeningFits n records rank card.lane = rw same at f in
      rw same record {
        size = opened-size n records rank card.lane card.time o;
        lanes = λ l h. opened-lane n records rank card.lane card.time o l h ∙ ap (get_or records (lane_place n l) 0 +◌) (length_one (eqb card.lane l) (opening_at rank card));
        ranks = λ r h. opened_rank n records rank card.lane card.time o r h ∙ record_one (eqb rank r) (get_or records r 0) (opening_at rank card);
      })

pub record_append : (x : ℕ) (os ps : List Opening) → record_after x (os ++ ps) ≡ record_after (record_after x os) ps
unfolding record_after
record_append x [] ps = refl
record_append x (o ∷ os) ps = record_append (o.time + 1) os ps

-- after all cards
all_scans : (n : ℕ) (records : List ℕ) → length records ≡ records_length n → (cards : List Card) → Images cards → Recorded n records (openings records cards) (after_cards records cards)
unfolding after_cards openings at_rank in_lane
all_scans n records size [] a = unfold record_after select in record { size = refl; lanes = λ l h. omega arith; ranks = λ r h. refl }
all_scans n records size (card ∷ cards) a =
    let one = one-scan n records size card a.0 in
    let rest = all_scans n (after_card records card) (one.size ∙ size) cards a.1 in
    let first = opening_of (scan_of records card) card in
    let later = openings (after_card records card) cards in
    record {
      size = rest.size ∙ one.size;
      lanes = λ l h. omega (arith, rest.lanes l h, one.lanes l h, ap length (select-append (λ o. eqb o.lane l) first later), length-append (in_lane l first) (in_lane l later));
      ranks = λ r h.
          rest.ranks r h
          ∙ ap (λ (x : ℕ). record_after x (at_rank r later)) (one.ranks r h)
          ∙ sym (ap (record_after (get_or records r 0)) (select-append (λ o. eqb o.rank r) first later) ∙ record_append (get_or records r 0) (at_rank r first) (at_rank r later));
    }

-- ---- the statement

pub history : History
unfolding no_records record_after
history = record {
  from_zeros = λ n cards a.
      let told = all_scans n (no_records n) (length-replicate (records_length n) 0) cards a in
      record {
        lanes = λ l h. let from = lane_range l h in omega (arith, told.lanes l h, get_or-replicate {A = ℕ} (records_length n) (lane_place n l) 0 0 (omega (arith, from)));
        ranks = λ r h. told.ranks r h ∙ ap (λ (x : ℕ). record_after x (at_rank r (openings (no_records n) cards))) (get_or-replicate {A = ℕ} (records_length n) r 0 0 (omega arith));
      };
  recorded = λ n records size cards a. all_scans n records size cards a;
}
