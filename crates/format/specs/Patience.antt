-- "Patience gets through" (paper 02, S-17): a listed admission that is refused with 26 opens once the lockout has run since the holder's last opening, and no
-- earlier. The statement; the proof is proofs/Patience.antt.
-- Assumes nothing.
use Rattle.std.specs.Prelude.{◌≡◌, ℕ, ◌+◌, ◌≤◌, ◌<◌, cond, List, [], ◌∷◌, ltb}
use Rattle.std.proofs.Math.Option.{Option, some}
use Rattle.format.specs.Seq.{All, rank_in}
use Rattle.format.specs.Page.{Byte}
use Rattle.format.specs.Image.{key_count, keys_of}
use Rattle.format.specs.Question.{Outcome, refused, returns}
use Rattle.format.specs.Scan.{BelowEnds, holder_record}
use Rattle.format.specs.History.{Card, after_cards, holder_on, key_on, openings, scan_of}
use Rattle.format.specs.Holders.{Bring, last_time, of_holder, openings_since, records_since, time_in}

-- ---- the scans

-- over these records the card is refused with 26; so its admission is listed, since 24 comes before 26
abbrev pub LockedOut : List ℕ → Card → Type 0
LockedOut records card = scan_of records card ≡ refused 26

-- the card again, in a lane at a time: gate, image, admission and lockout are the same
abbrev pub again : Card → ℕ → ℕ → Card
again card lane time = record { lift = card.lift; image = card.image; holder = card.holder; slot = card.slot; time = time; lockout = card.lockout; lane = lane }

-- what the card gets, scanned again after the refusal and the cards between
abbrev pub scan_again : List ℕ → Card → List Card → ℕ → ℕ → Outcome ℕ
scan_again records card between lane time = scan_of (after_cards records (card ∷ between)) (again card lane time)

-- what is granted: any number of refused scans and of other holders' openings between, with any lifts, lockouts, lanes and times
pub record Granted (records : List ℕ) (card : Card) (between : List Card) (lane time : ℕ) : Type 0 where
  -- the image is the same throughout
  pub one_image : Bring card.image between
  -- none of that holder's admissions has opened meanwhile
  pub none_opened : of_holder (holder_on card) (openings records (card ∷ between)) ≡ []
  -- the lane is valid, its count and the time are below their ends
  pub ends : BelowEnds (key_count card.image) (after_cards records (card ∷ between)) lane time

-- ---- what is promised

-- of a card that is refused with 26 over some records: it opens first at the holder's last opening plus the lockout
pub record FirstMoment (records : List ℕ) (card : Card) (last_opening : Option ℕ) : Type 0 where
  -- the holder has a last opening
  pub last : ℕ
  pub last_is : last_opening ≡ some last
  -- any later scan of it, at a time no earlier than the holder's last opening plus the lockout, opens: it returns the admission's rank
  pub gets_through : (between : List Card) (lane time : ℕ) → Granted records card between lane time → last + card.lockout ≤ time
      → scan_again records card between lane time ≡ returns (rank_in (keys_of card.image) (key_on card))
  -- the converse: an earlier one is refused, before the last opening with 25, else with 26
  pub too_early : (between : List Card) (lane time : ℕ) → Granted records card between lane time → time < last + card.lockout
      → scan_again records card between lane time ≡ refused (cond (ltb time last) 25 26)

-- the statement
pub record Patience : Type 0 where
  -- over a buffer of zeros that scans alone write, all of the same image: those before the refusal tell the holder's last opening
  pub from_zeros : (before : List Card) (card : Card) → All Byte card.image → Bring card.image before → LockedOut (records_since card.image before) card
      → FirstMoment (records_since card.image before) card (last_time (openings_since card.image before (holder_on card)))
  -- over any records, as of a gate that was switched off: the largest record of the holder's admissions tells it
  pub from_any : (records : List ℕ) (card : Card) → All Byte card.image → LockedOut records card → FirstMoment records card (time_in (holder_record card.image records (holder_on card)))
