-- One sale, one withdrawal (paper 02, S-7): from an image and its record buffer to those of the changed list, in a second image buffer and a second record
-- buffer.
-- Assumes nothing.
use Rattle.std.specs.Prelude.{ℕ, ◌+◌, ◌-◌, Bool, true, not, cond, List, [], ◌∷◌, ◌++◌, map, leb, ltb, eqb, length, drop}
use Rattle.format.specs.Seq.{is_in, select}
use Rattle.format.specs.Key.{key_of}
use Rattle.format.specs.Image.{key_count, keys_of, lift_of}
use Rattle.format.specs.Question.{Question, Outcome, settle, filled, image_questions}
use Rattle.format.specs.Writer.{image_of}
use Rattle.format.specs.Scan.{record_of, records_length}
use Rattle.edit.specs.declared.Change.{Change}
use Rattle.edit.specs.declared.Change.TheVariants.{Add, Withdraw}

-- ---- the changed list

-- the keys of a list below a key, and those above it
unfoldable pub keys_below : ℕ → List ℕ → List ℕ
keys_below key keys = select (λ k. ltb k key) keys

unfoldable pub keys_above : ℕ → List ℕ → List ℕ
keys_above key keys = select (λ k. ltb key k) keys

-- an ascending list with the key, or without it
unfoldable pub changed_keys : Change → ℕ → List ℕ → List ℕ
changed_keys Add key keys = keys_below key keys ++ key ∷ keys_above key keys
changed_keys Withdraw key keys = keys_below key keys ++ keys_above key keys

-- the image that the writer gives for the changed list, in the version and for the lift of the image that is changed
unfoldable pub changed_image : Change → List ℕ → ℕ → List ℕ
changed_image change img key = image_of (lift_of img) (changed_keys change key (keys_of img))

-- ---- the changed records

-- the record that a key brings along: its own, or 0 where it is new
unfoldable pub carried : List ℕ → List ℕ → ℕ → ℕ
carried img records key = cond (is_in key (keys_of img)) (record_of img records key) 0

-- each key's record at its new rank, then the lanes' counts
unfoldable pub changed_records : Change → List ℕ → List ℕ → ℕ → List ℕ
changed_records change img records key = map (carried img records) (changed_keys change key (keys_of img)) ++ drop (key_count img) records

-- ---- the questions, of an image with n keys

-- how many keys there are then
unfoldable pub changed_count : Change → ℕ → ℕ
changed_count Add n = n + 1
changed_count Withdraw n = n - 1

-- 30: the admission to add is not listed, the one to withdraw is
unfoldable pub can_change : Change → Bool → Bool
can_change Add listed = not listed
can_change Withdraw listed = listed

-- 14: an addition makes at most 4,096; a withdrawal is not asked
unfoldable pub few_enough : Change → ℕ → Bool
few_enough Add n = leb (changed_count Add n) 4096
few_enough Withdraw n = true

-- 21, 30, 14, and 17 of the output for the records: the record buffers' lengths, and whether the admission is listed, are handed in
unfoldable pub change_questions : Change → ℕ → ℕ → Bool → ℕ → List Question
change_questions change n records listed places =
    (21, eqb records (records_length n))
    ∷ (30, can_change change listed)
    ∷ (14, few_enough change n)
    ∷ (17, leb (records_length (changed_count change n)) places)
    ∷ []

-- ---- the job

-- these, and 17 of the output for the image
unfoldable pub edit_questions : Change → List ℕ → List ℕ → ℕ → List ℕ → List ℕ → List Question
edit_questions change img records key image' records' =
    change_questions change (key_count img) (length records) (is_in key (keys_of img)) (length records')
    ++ (17, leb (length (changed_image change img key)) (length image')) ∷ []

-- 1 to 13, then these; returns the new image's length
unfoldable pub edit : Change → List ℕ → List ℕ → ℕ → ℕ → List ℕ → List ℕ → Outcome ℕ
edit change img records holder slot image' records' =
    settle (image_questions img ++ edit_questions change img records (key_of holder slot) image' records') (length (changed_image change img (key_of holder slot)))

-- the two outputs at exit: as they were lent after a refusal; else the new image and the new records in their first places
unfoldable pub image_after_edit : Change → List ℕ → List ℕ → ℕ → ℕ → List ℕ → List ℕ → List ℕ
image_after_edit change img records holder slot image' records' =
    filled (edit change img records holder slot image' records') (changed_image change img (key_of holder slot)) image'

unfoldable pub records_after_edit : Change → List ℕ → List ℕ → ℕ → ℕ → List ℕ → List ℕ → List ℕ
records_after_edit change img records holder slot image' records' =
    filled (edit change img records holder slot image' records') (changed_records change img records (key_of holder slot)) records'
