-- How outcomes are handed to C: the value, or the negated number of the question that got a no.
-- Assumes nothing.
use Rattle.std.specs.Prelude.{List, ◌∷◌, ◌≡◌, ℕ, ◌+◌, ◌*◌, ℤ, pos, neg_ℤ, set}
use Rattle.format.specs.declared.Admission.{Admission}
use Rattle.format.specs.declared.Rectangle.{Rectangle}
use Rattle.format.specs.Writer.{write, buffer_after_write}
use Rattle.writer.specs.Outcomes.{pairs_in}
use Rattle.format.specs.Question.{Outcome, refused, returns}
use Rattle.format.specs.Answer.{LookupAnswer, absent, listed}
use Rattle.edit.specs.declared.Change.{Change}
use Rattle.edit.specs.Edit.{edit, image_after_edit, records_after_edit}

-- a job that returns a number
abbrev pub encoded : Outcome ℕ → ℤ
encoded (returns n) = pos n
encoded (refused n) = neg_ℤ (pos n)

-- lookup: 1 where the admission is listed, 0 where it is absent
abbrev pub encoded_lookup : Outcome LookupAnswer → ℤ
encoded_lookup (returns (listed rank pages)) = pos 1
encoded_lookup (returns (absent smaller)) = pos 0
encoded_lookup (refused n) = neg_ℤ (pos n)

-- and the nine places: the rank and the page numbers where it is listed; where it is absent the number of smaller keys in the first; else what they held
abbrev pub lookup_buffer : Outcome LookupAnswer → List ℕ → List ℕ
lookup_buffer (returns (listed rank pages)) buffer = rank ∷ pages
lookup_buffer (returns (absent smaller)) buffer = set buffer 0 smaller
lookup_buffer (refused n) buffer = buffer

-- a holder and a slot in one number
abbrev pub encoded_admission : ℕ × ℕ → ℤ
encoded_admission a = pos (a.0 * 65536 + a.1)

-- finding by rank
abbrev pub encoded_find : Outcome (ℕ × ℕ) → ℤ
encoded_find (returns a) = encoded_admission a
encoded_find (refused n) = neg_ℤ (pos n)

-- the rectangle of holders h0 to h1 and slots s0 to s1
abbrev pub rectangle_of : ℕ → ℕ → ℕ → ℕ → Rectangle
rectangle_of h0 h1 s0 s1 = record { holders = record { low = h0; high = h1 }; slots = record { low = s0; high = s1 } }

-- the writer for a lift: what it returns, and the buffer at exit
pub record WrittenToC (lift : ℕ) (list : List Admission) (buffer : List ℕ) (r : ℤ) (buffer' : List ℕ) : Type 0 where
  pub returned : r ≡ encoded (write lift (pairs_in list) buffer)
  pub bytes : buffer' ≡ buffer_after_write lift (pairs_in list) buffer

-- an edit: what it returns, and both outputs at exit
pub record EditedToC (change : Change) (img records : List ℕ) (holder slot : ℕ) (image' records' : List ℕ) (r : ℤ) (image'' records'' : List ℕ) : Type 0 where
  pub returned : r ≡ encoded (edit change img records holder slot image' records')
  pub image : image'' ≡ image_after_edit change img records holder slot image' records'
  pub recorded : records'' ≡ records_after_edit change img records holder slot image' records'
