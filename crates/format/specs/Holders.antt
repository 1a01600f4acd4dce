-- Holders over a gate's history: the statement of what a holder's record tells, and of when a scan opens. The proof is proofs/HolderHistories.antt.
-- Assumes nothing.
use Rattle.std.specs.Prelude.{◌≡◌, ℕ, zero, suc, ◌+◌, ◌-◌, ◌≤◌, Bool, true, false, ◌&&◌, List, [], ◌∷◌, ◌++◌, eqb, leb}
use Rattle.std.proofs.Math.Option.{Option, none, some}
use Rattle.format.specs.Seq.{All, is_in, select}
use Rattle.format.specs.Page.{Byte}
use Rattle.format.specs.Image.{key_count, keys_of}
use Rattle.format.specs.Question.{Outcome, Yes, image_questions, refused, returns}
use Rattle.format.specs.Scan.{gate_questions, holder_record, lift_fits}
use Rattle.format.specs.History.{Card, Opening, after_cards, holder_on, key_on, no_records, openings, record_after, scan_of}

-- ---- a holder's openings

-- the openings of a holder's admissions
unfoldable pub of_holder : ℕ → List Opening → List Opening
of_holder holder = select (λ o. eqb o.holder holder)

-- from t on, the times never fall
abbrev pub NonDecreasing : ℕ → List Opening → Type 0
NonDecreasing t [] = Unit {0}
NonDecreasing t (o ∷ os) = (t ≤ o.time) × NonDecreasing o.time os

-- the time of the last of some openings, if there is one
unfoldable pub last_time : List Opening → Option ℕ
last_time [] = none
last_time (o ∷ []) = some o.time
last_time (o ∷ p ∷ os) = last_time (p ∷ os)

-- the time that a record tells: none where it is 0, for never; else one less than the record
unfoldable pub time_in : ℕ → Option ℕ
time_in zero = none
time_in (suc time) = some time

-- whether the lockout has run at a time: there was no opening, or the last was at least the lockout before
unfoldable pub has_run : ℕ → ℕ → Option ℕ → Bool
has_run lockout time none = true
has_run lockout time (some last) = leb (last + lockout) time

-- ---- a scan

-- whether a scan with that outcome opened
unfoldable pub opens : Outcome ℕ → Bool
opens (refused n) = false
opens (returns rank) = true

-- no question before 24 refuses the scan: 24 is put in with a yes
abbrev pub Asked24 : List ℕ → Card → Type 0
Asked24 records card = All Yes (image_questions card.image ++ gate_questions (lift_fits card.lift card.image) (key_count card.image) records card.lane true card.time)

-- ---- scans that bring one image

-- every card brings that image
abbrev pub Bring : List ℕ → List Card → Type 0
Bring img = All (λ card. card.image ≡ img)

-- the records after some cards, and a holder's openings among them, from a buffer of zeros that scans alone write
abbrev pub records_since : List ℕ → List Card → List ℕ
records_since img cards = after_cards (no_records (key_count img)) cards

abbrev pub openings_since : List ℕ → List Card → ℕ → List Opening
openings_since img cards holder = of_holder holder (openings (no_records (key_count img)) cards)

-- ---- what is promised of holders

-- a holder's record, x before the holder's openings, is told by them; their times never fall, so that the last is the latest
pub record Told (x : ℕ) (os : List Opening) (after : ℕ) : Type 0 where
  pub record_is : after ≡ record_after x os
  pub times : NonDecreasing (x - 1) os

-- of an image's holders
pub record HoldersOf (img : List ℕ) : Type 0 where
  -- from a buffer of zeros the holder's record is 0 where none of the holder's admissions has opened, else the time of the holder's latest opening + 1
  pub from_zeros : (cards : List Card) → Bring img cards → (holder : ℕ) → Told 0 (openings_since img cards holder) (holder_record img (records_since img cards) holder)
  -- from any records
  pub recorded : (records : List ℕ) (cards : List Card) → Bring img cards → (holder : ℕ)
      → Told (holder_record img records holder) (of_holder holder (openings records cards)) (holder_record img (after_cards records cards) holder)
  -- refused scans restart nobody's lockout: a holder none of whose admissions opens under the cards, however many of them are refused and whoever else
  -- opens, keeps the record
  pub lockout_not_restarted : (records : List ℕ) (cards : List Card) → Bring img cards → (holder : ℕ)
      → of_holder holder (openings records cards) ≡ [] → holder_record img (after_cards records cards) holder ≡ holder_record img records holder
  -- after scans from a buffer of zeros, one that no question before 24 refuses opens exactly when its admission is listed, and its holder has never
  -- opened or the lockout has run since the holder's last opening
  pub opens_exactly : (cards : List Card) → Bring img cards → (card : Card) → card.image ≡ img → Asked24 (records_since img cards) card
      → opens (scan_of (records_since img cards) card) ≡ (is_in (key_on card) (keys_of img) && has_run card.lockout card.time (last_time (openings_since img cards (holder_on card))))

-- the statement: of any scans one after the other that bring one image, any bytes
abbrev pub Holders : Type 0
Holders = (img : List ℕ) → All Byte img → HoldersOf img
