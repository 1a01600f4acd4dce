-- The gate's scan: its questions, what it returns, and the record buffer at exit.
-- Assumes nothing.
use Rattle.std.specs.Prelude.{◌≡◌, ℕ, ◌+◌, ◌-◌, ◌<◌, Bool, true, ◌||◌, List, [], ◌∷◌, ◌++◌, map, leb, ltb, eqb, length, get_or, set}
use Rattle.format.specs.Seq.{is_in, largest, rank_in, select}
use Rattle.format.specs.Key.{holder_of, key_of}
use Rattle.format.specs.Image.{key_count, keys_of, lift_of}
use Rattle.format.specs.Question.{Question, Outcome, refused, returns, settle, is_zero, one_to, image_questions}

-- the largest 32-bit number
abbrev pub largest32 : ℕ
largest32 = 4294967295

-- ---- the record buffer of an image with n keys

-- a record for each rank, then eight counts of openings, lane 1's first
abbrev pub records_length : ℕ → ℕ
records_length n = n + 8

-- whether a number is a lane's: 1 to 8
unfoldable pub is_lane : ℕ → Bool
is_lane lane = one_to 8 lane

-- the place of a lane's count
abbrev pub lane_place : ℕ → ℕ → ℕ
lane_place n lane = n + (lane - 1)

-- the lane is valid, its count and the time are below their ends
pub record BelowEnds (n : ℕ) (records : List ℕ) (lane time : ℕ) : Type 0 where
  pub lane_valid : is_lane lane ≡ true
  pub count_below : get_or records (lane_place n lane) 0 < largest32
  pub time_below : time < largest32

-- what a yes to 29 and 21 to 23 says: these, and that the buffer has its length
pub record RecordsFit (n : ℕ) (records : List ℕ) (lane time : ℕ) : Type 0 where
  pub size : length records ≡ records_length n
  pub ends : BelowEnds n records lane time

-- ---- the questions, of an image with n keys

-- 36, 29 and 21 to 24: whether the lift fits, and whether the admission is listed, are handed in
unfoldable pub gate_questions : Bool → ℕ → List ℕ → ℕ → Bool → ℕ → List Question
gate_questions fits n records lane listed time =
    (36, fits)
    ∷ (29, is_lane lane)
    ∷ (21, eqb (length records) (records_length n))
    ∷ (22, ltb time largest32)
    ∷ (23, ltb (get_or records (lane_place n lane) 0) largest32)
    ∷ (24, listed)
    ∷ []

-- 25 and 26, of a holder's record x: never opened, or the time is not before the last opening; never opened, or at least the lockout seconds since. They
-- are about numbers, so that no sum overflows.
unfoldable pub time_right : ℕ → ℕ → Bool
time_right x time = is_zero x || leb x (time + 1)

unfoldable pub lockout_over : ℕ → ℕ → ℕ → Bool
lockout_over x time lockout = is_zero x || leb (x + lockout) (time + 1)

unfoldable pub lockout_questions : ℕ → ℕ → ℕ → List Question
lockout_questions x time lockout = (25, time_right x time) ∷ (26, lockout_over x time lockout) ∷ []

-- ---- the job

-- 36: the image names no lift, or the gate's
unfoldable pub lift_fits : ℕ → List ℕ → Bool
lift_fits lift img = is_zero (lift_of img) || eqb (lift_of img) lift

-- the record of a key: 0 where no scan of that admission opened, else the time of the last that did + 1
unfoldable pub record_of : List ℕ → List ℕ → ℕ → ℕ
record_of img records key = get_or records (rank_in (keys_of img) key) 0

-- the largest record among those of some keys
unfoldable pub largest_record : List ℕ → List ℕ → List ℕ → ℕ
largest_record img records keys = largest (map (record_of img records) keys)

-- whether a key is a holder's, and the keys of a holder's listed admissions
unfoldable pub is_holders : ℕ → ℕ → Bool
is_holders holder key = eqb (holder_of key) holder

unfoldable pub keys_of_holder : List ℕ → ℕ → List ℕ
keys_of_holder img holder = select (is_holders holder) (keys_of img)

-- the holder's record, the largest among those of all of the holder's listed admissions: 0 for never, else the time of the holder's last opening + 1
unfoldable pub holder_record : List ℕ → List ℕ → ℕ → ℕ
holder_record img records holder = largest_record img records (keys_of_holder img holder)

-- 36, 29 and 21 to 26, at a gate of that lift and in that lane; 25 and 26 look at the record of the key's holder
unfoldable pub scan_questions : ℕ → List ℕ → List ℕ → ℕ → ℕ → ℕ → ℕ → List Question
scan_questions lift img records lane key time lockout =
    gate_questions (lift_fits lift img) (key_count img) records lane (is_in key (keys_of img)) time ++ lockout_questions (holder_record img records (holder_of key)) time lockout

-- 1 to 13, then these; returns the rank
unfoldable pub scan : ℕ → List ℕ → List ℕ → ℕ → ℕ → ℕ → ℕ → ℕ → Outcome ℕ
scan lift img records lane holder slot time lockout =
    settle (image_questions img ++ scan_questions lift img records lane (key_of holder slot) time lockout) (rank_in (keys_of img) (key_of holder slot))

-- ---- the records at exit, of an image with n keys

-- after an opening at a rank: time + 1 there, one more in the lane's count, the other elements as they were
unfoldable pub opened : ℕ → List ℕ → ℕ → ℕ → ℕ → List ℕ
opened n records lane rank time = set (set records rank (time + 1)) (lane_place n lane) (get_or records (lane_place n lane) 0 + 1)

-- after a scan with that outcome: as they were after a refusal
unfoldable pub records_after : Outcome ℕ → ℕ → List ℕ → ℕ → ℕ → List ℕ
records_after (refused number) n records lane time = records
records_after (returns rank) n records lane time = opened n records lane rank time

unfoldable pub records_after_scan : ℕ → List ℕ → List ℕ → ℕ → ℕ → ℕ → ℕ → ℕ → List ℕ
records_after_scan lift img records lane holder slot time lockout = records_after (scan lift img records lane holder slot time lockout) (key_count img) records lane time
