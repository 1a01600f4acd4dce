-- What the edit's functions promise: the answer and the outputs.
-- Assumes nothing.
use Rattle.std.specs.Prelude.{◌≡◌, Result, Bool, true, List, ℕ, ◌≤◌, ◌<◌, length, take}
use Rattle.format.specs.Seq.{delete_at, insert_at, is_in, rank_in}
use Rattle.format.specs.Image.{key_count, keys_of}
use Rattle.format.specs.Question.{filled, settle}
use Rattle.format.specs.Scan.{records_length}
use Rattle.format.specs.Exact.{Accepted}
use Rattle.format.specs.Refusal.{outcome_of}
use Rattle.format.specs.declared.refusal.Refusal.{Refusal}
use Rattle.edit.specs.declared.Change.{Change}
use Rattle.edit.specs.declared.Change.TheVariants.{Add, Withdraw}
use Rattle.edit.specs.Edit.{can_change, changed_count, changed_image, changed_records, edit, edit_questions, image_after_edit, records_after_edit}

-- the answer and the two outputs at exit, for an image with its records and the outputs as they were lent
pub record EditedRight (change : Change) (img records : List ℕ) (holder slot : ℕ) (image' records' : List ℕ) (answer : Result ℕ Refusal) (image'' records'' : List ℕ) : Type 0 where
  pub returned : outcome_of answer ≡ edit change img records holder slot image' records'
  pub image : image'' ≡ image_after_edit change img records holder slot image' records'
  pub recorded : records'' ≡ records_after_edit change img records holder slot image' records'

-- ---- by key, after 1 to 13

-- whether a key of an accepted image is listed, and how many keys are smaller
pub record Located (img : List ℕ) (key : ℕ) (listed : Bool) (rank : ℕ) : Type 0 where
  pub accepted : Accepted img
  pub small : key < 4294967296
  pub listed_is : listed ≡ is_in key (keys_of img)
  pub rank_is : rank ≡ rank_in (keys_of img) key

-- the answer and the two outputs at exit
pub record KeyEdited (change : Change) (img records : List ℕ) (key : ℕ) (image' records' : List ℕ) (answer : Result ℕ Refusal) (image'' records'' : List ℕ) : Type 0 where
  pub returned : outcome_of answer ≡ settle (edit_questions change img records key image' records') (length (changed_image change img key))
  pub image : image'' ≡ filled (outcome_of answer) (changed_image change img key) image'
  pub recorded : records'' ≡ filled (outcome_of answer) (changed_records change img records key) records'

-- ---- the changed keys, after 30 and 14

-- a key that can be added to an accepted image or withdrawn from it, and how many keys are smaller
pub record Changing (change : Change) (img : List ℕ) (key rank : ℕ) : Type 0 where
  pub accepted : Accepted img
  pub small : key < 4294967296
  pub rank_is : rank ≡ rank_in (keys_of img) key
  pub can : can_change change (is_in key (keys_of img)) ≡ true
  pub few : changed_count change (key_count img) ≤ 4096

-- the first n places hold the keys
pub record KeysIn (keys places : List ℕ) (n : ℕ) : Type 0 where
  pub count : n ≡ length keys
  pub within : n ≤ length places
  pub held : take n places ≡ keys

-- ---- the changed records

-- the records with a 0 put in at a rank, or without the one there
abbrev pub records_at : Change → ℕ → List ℕ → List ℕ
records_at Add rank records = insert_at rank 0 records
records_at Withdraw rank records = delete_at rank records

-- the records of an image with n keys, a rank of a key or after the last, and places for the changed records
pub record RecordRoom (change : Change) (records : List ℕ) (n rank : ℕ) (places : List ℕ) : Type 0 where
  pub size : length records ≡ records_length n
  pub few : n < 65536
  pub within : rank ≤ n
  pub room : changed_count change (length records) ≤ length places
