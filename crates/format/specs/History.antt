-- A gate's history: scans one after the other, each with its own image and lift, over one record buffer; and the statement of what the records then
-- tell. The proof is proofs/Histories.antt.
-- Assumes nothing.
use Rattle.std.specs.Prelude.{◌≡◌, ℕ, ◌+◌, ◌<◌, true, List, [], ◌∷◌, ◌++◌, eqb, length, get_or, replicate}
use Rattle.format.specs.Seq.{All, select}
use Rattle.format.specs.Key.{holder_of, key_of}
use Rattle.format.specs.Page.{Byte}
use Rattle.format.specs.Question.{Outcome, refused, returns}
use Rattle.format.specs.Scan.{is_lane, lane_place, records_after_scan, records_length, scan}

-- ---- scans

-- what a scan brings beside the record buffer: the gate's lift and image, what is on the card, the time, the lockout and the lane
pub record Card : Type 0 where
  pub lift : ℕ
  pub image : List ℕ
  pub holder : ℕ
  pub slot : ℕ
  pub time : ℕ
  pub lockout : ℕ
  pub lane : ℕ

-- the key on the card, and its holder
abbrev pub key_on : Card → ℕ
key_on card = key_of card.holder card.slot

abbrev pub holder_on : Card → ℕ
holder_on card = holder_of (key_on card)

abbrev pub scan_of : List ℕ → Card → Outcome ℕ
scan_of records card = scan card.lift card.image records card.lane card.holder card.slot card.time card.lockout

abbrev pub after_card : List ℕ → Card → List ℕ
after_card records card = records_after_scan card.lift card.image records card.lane card.holder card.slot card.time card.lockout

-- the records after all cards
unfoldable pub after_cards : List ℕ → List Card → List ℕ
after_cards records [] = records
after_cards records (card ∷ cards) = after_cards (after_card records card) cards

-- ---- openings

-- the rank at which an opening is recorded, its lane and time, and the holder of the key on its card
pub record Opening : Type 0 where
  pub rank : ℕ
  pub lane : ℕ
  pub time : ℕ
  pub holder : ℕ

-- a card's opening at a rank
abbrev pub opening_at : ℕ → Card → Opening
opening_at rank card = record { rank = rank; lane = card.lane; time = card.time; holder = holder_on card }

-- the opening that a scan is, if it is not refused
unfoldable pub opening_of : Outcome ℕ → Card → List Opening
opening_of (refused n) card = []
opening_of (returns rank) card = opening_at rank card ∷ []

-- the openings among the cards, in order
unfoldable pub openings : List ℕ → List Card → List Opening
openings records [] = []
openings records (card ∷ cards) = opening_of (scan_of records card) card ++ openings (after_card records card) cards

-- those at a rank, and those in a lane
unfoldable pub at_rank : ℕ → List Opening → List Opening
at_rank rank = select (λ o. eqb o.rank rank)

unfoldable pub in_lane : ℕ → List Opening → List Opening
in_lane lane = select (λ o. eqb o.lane lane)

-- what a record is after its openings, where it was x before them: the time of the last + 1, or x where there is none
unfoldable pub record_after : ℕ → List Opening → ℕ
record_after x [] = x
record_after x (o ∷ os) = record_after (o.time + 1) os

-- ---- what is promised of a record buffer for n keys

-- one of zeros
unfoldable pub no_records : ℕ → List ℕ
no_records n = replicate (records_length n) 0

-- what one of zeros holds after some openings
pub record FromZeros (n : ℕ) (os : List Opening) (after : List ℕ) : Type 0 where
  -- each lane's count is the number of scans that opened in the lane
  pub lanes : (lane : ℕ) → is_lane lane ≡ true → get_or after (lane_place n lane) 0 ≡ length (in_lane lane os)
  -- each record is 0 where no scan opened at its rank, else the time of the last that did + 1
  pub ranks : (rank : ℕ) → rank < n → get_or after rank 0 ≡ record_after 0 (at_rank rank os)

-- what one that held records holds after some openings: each lane's count has grown by their number in the lane, and each record is told by its own
pub record Recorded (n : ℕ) (records : List ℕ) (os : List Opening) (after : List ℕ) : Type 0 where
  pub size : length after ≡ length records
  pub lanes : (lane : ℕ) → is_lane lane ≡ true → get_or after (lane_place n lane) 0 ≡ get_or records (lane_place n lane) 0 + length (in_lane lane os)
  pub ranks : (rank : ℕ) → rank < n → get_or after rank 0 ≡ record_after (get_or records rank 0) (at_rank rank os)

-- the cards' images are bytes
abbrev pub Images : List Card → Type 0
Images = All (λ card. All Byte card.image)

-- the statement: of any scans one after the other
pub record History : Type 0 where
  -- from a buffer of zeros that scans alone write
  pub from_zeros : (n : ℕ) (cards : List Card) → Images cards → FromZeros n (openings (no_records n) cards) (after_cards (no_records n) cards)
  -- from any records
  pub recorded : (n : ℕ) (records : List ℕ) → length records ≡ records_length n → (cards : List Card) → Images cards
      → Recorded n records (openings records cards) (after_cards records cards)
