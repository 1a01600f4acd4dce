-- What an edit does to the list and to the records, and what undoes it: the theorems that paper 02, S-7, asks for. The proof is proofs/Edits.antt.
-- Assumes nothing.
use Rattle.std.specs.Prelude.{◌≡◌, ℕ, ◌≤◌, length, drop, set}
use mathlib.Core.List.{List, ◌++◌, Memᴰ}
use Rattle.format.specs.Seq.{All, rank_in}
use Rattle.format.specs.Page.{Byte}
use Rattle.format.specs.Key.{Admissible, key_of}
use Rattle.format.specs.Image.{key_count, keys_of, lift_of, list_of, version_of}
use Rattle.format.specs.Question.{returns}
use Rattle.format.specs.Scan.{holder_record, record_of, records_length}
use Rattle.format.specs.Exact.{Accepted}
use Rattle.format.specs.Insertion.{Inserted}
use Rattle.edit.specs.declared.Change.{Change}
use Rattle.edit.specs.declared.Change.TheVariants.{Add, Withdraw}
use Rattle.edit.specs.Edit.{changed_image, changed_records, edit, image_after_edit, records_after_edit}

-- ---- an edit that is done

-- lent two outputs, the job returns a length and leaves an image and records in their first places, and what lay past the new ends
pub record DoneIn (change : Change) (img records : List ℕ) (holder slot : ℕ) (img' records' image-out records-out : List ℕ) : Type 0 where
  pub returned : edit change img records holder slot image-out records-out ≡ returns (length img')
  pub image : image_after_edit change img records holder slot image-out records-out ≡ img' ++ drop (length img') image-out
  pub recorded : records_after_edit change img records holder slot image-out records-out ≡ records' ++ drop (length records') records-out

-- the job takes an image with its records to another with its own, in any two outputs that have room
pub record Edits (change : Change) (img records : List ℕ) (holder slot : ℕ) (img' records' : List ℕ) : Type 0 where
  pub bytes : All Byte img
  pub admissible : Admissible (holder, slot)
  pub fits : length records' ≡ records_length (key_count img')
  pub done : (image-out records-out : List ℕ) → length img' ≤ length image-out → length records' ≤ length records-out
      → DoneIn change img records holder slot img' records' image-out records-out

-- ---- what it does

-- the second image's list is the first one's with one admission more
pub record OneMore (less more : List ℕ) (admission : ℕ × ℕ) : Type 0 where
  pub absent : Memᴰ admission (list_of less) → ⊥
  pub inserted : Inserted less more admission

-- the new list is the old one with the admission, or without it
abbrev pub ListChanged : Change → List ℕ → List ℕ → ℕ × ℕ → Type 0
ListChanged Add img img' admission = OneMore img img' admission
ListChanged Withdraw img img' admission = OneMore img' img admission

pub record Changed (change : Change) (img records : List ℕ) (holder slot : ℕ) (img' records' : List ℕ) : Type 0 where
  -- the new image is accepted, in the version and for the lift of the old one, and has the changed list
  pub accepted : Accepted img'
  pub version : version_of img' ≡ version_of img
  pub lift : lift_of img' ≡ lift_of img
  pub list : ListChanged change img img' (holder, slot)
  -- every admission that stays listed has the record that it had, an added one's is 0, and the lanes' counts are what they were
  pub others : (h s : ℕ) → Memᴰ {A = ℕ × ℕ} (h, s) (list_of img) → Memᴰ {A = ℕ × ℕ} (h, s) (list_of img') → record_of img' records' (key_of h s) ≡ record_of img records (key_of h s)
  pub new : change ≡ Add → record_of img' records' (key_of holder slot) ≡ 0
  pub counts : drop (key_count img') records' ≡ drop (key_count img) records
  -- so lockouts go on: a sale changes no holder's record, and a withdrawal no other holder's
  pub lockouts : (h : ℕ) → (change ≡ Withdraw → h ≡ holder → ⊥) → holder_record img' records' h ≡ holder_record img records h

-- ---- the statement

pub record EditLaws : Type 0 where
  -- where the job returns a length, it takes the image and its records to the writer's image of the changed list and the changed records
  pub returned : (change : Change) (img records : List ℕ) (holder slot : ℕ) → All Byte img → Admissible (holder, slot)
      → (image-out records-out : List ℕ) (size : ℕ) → edit change img records holder slot image-out records-out ≡ returns size
      → Edits change img records holder slot (changed_image change img (key_of holder slot)) (changed_records change img records (key_of holder slot))
  -- what it takes them to is changed in the admission alone
  pub changed : (change : Change) (img records : List ℕ) (holder slot : ℕ) (img' records' : List ℕ) → Edits change img records holder slot img' records'
      → Changed change img records holder slot img' records'
  -- adding and then withdrawing gives back the same image and the same records
  pub added_withdrawn : (img records : List ℕ) (holder slot : ℕ) (img' records' : List ℕ) → Edits Add img records holder slot img' records'
      → Edits Withdraw img' records' holder slot img records
  -- withdrawing and then adding gives back the same image, and the records with that admission's at 0
  pub withdrawn_added : (img records : List ℕ) (holder slot : ℕ) (img' records' : List ℕ) → Edits Withdraw img records holder slot img' records'
      → Edits Add img' records' holder slot img (set records (rank_in (keys_of img) (key_of holder slot)) 0)
