-- The edit's answer and its outputs: from lookup's answer, from what 21, 30, 14 and 17 then say, and from the writer's answer for the changed keys.
-- Assumes nothing.
use mathlib.Core.Path.{◌≡◌, refl, sym, ap, ap₂, ◌∙◌}
use mathlib.Core.Bool.{Bool, true}
use mathlib.Core.Option.{Option, none, some}
use mathlib.Core.List.{List, [], ◌∷◌, ◌++◌}
use Prim.Native.Nat.{ℕ, ◌-◌, ◌≤◌, ◌<◌}
use native.Mathlib.Omega.{arith}
use borrow.Author.Tests.{eqb-true, le-leb, leb-true}
use lib.Dec.{leb}
use lib.ListN.{length, take, drop}
use Rattle.format.specs.Seq.{All, delete_at, insert_at, is_in, rank_in}
use Rattle.format.specs.Key.{key_of}
use Rattle.format.specs.Page.{Byte}
use Rattle.format.specs.Image.{key_count, keys_of, lift_of}
use Rattle.format.specs.Question.{Outcome, Question, Yes, filled, first_no, image_questions, outcome, refused, returns, settle}
use Rattle.format.specs.Answer.{LookupAnswer, absent, listed, lookup, lookup_answer}
use Rattle.format.specs.Writer.{buffer_after_write_keys, either_question, image_of, list_questions, room_question, write_keys}
use Rattle.format.specs.Scan.{records_length}
use Rattle.format.specs.Exact.{Accepted}
use Rattle.format.proofs.Accepted.{facts}
use Rattle.format.proofs.Descent.{at_rank_lem}
use Rattle.format.proofs.Jobs.{list_writable, no_of_refused}
use Rattle.format.proofs.Keys.{key_of_small}
use Rattle.format.proofs.LookupAnswers.{image_accepted, image_yes, of_absent, of_listed}
use Rattle.format.proofs.Members.{ascending_of, rank_le}
use Rattle.format.proofs.Questions.{after_no, after_yes, asked_yes, yes_of_none}
use Rattle.format.specs.Refusal.{number_of, outcome_of}
use Rattle.format.specs.declared.refusal.Refusal.{Refusal}
use Rattle.std.specs.Prelude.{Result, Ok, Err, is_some}
use Rattle.paged_lookup.specs.declared.Found.{Found}
use Rattle.paged_lookup.specs.declared.Found.TheVariants.{Absent, Listed}
use Rattle.paged_lookup.specs.Outcomes.{answer_of, rank_in as found_rank, smaller_in}
use Rattle.writer.specs.Outcomes.{WrittenKeys}
use Rattle.edit.specs.declared.Change.{Change}
use Rattle.edit.specs.declared.Change.TheVariants.{Add, Withdraw}
use Rattle.edit.specs.Edit.{can_change, change_questions, changed_count, changed_image, changed_keys, changed_records, edit, edit_questions, image_after_edit, records_after_edit}
use Rattle.edit.specs.Outcomes.{Changing, EditedRight, KeyEdited, KeysIn, Located, RecordRoom, records_at}
use Rattle.edit.proofs.ChangedKeys.{asc_changed}
use Rattle.edit.proofs.AtRank.{added_at, changed_length, few_keys, is_listed, records_added, records_withdrawn, not_listed, withdrawn_at}
use Rattle.edit.proofs.Copies.{length_delete, length_insert}

-- ---- the keys and the records at the rank

-- the first places hold the changed keys
pub keys_added : (change : Change) (img : List ℕ) (key rank : ℕ) (places : List ℕ) (n : ℕ) → change ≡ Add → Changing change img key rank → KeysIn (insert_at rank key (keys_of img)) places n
    → KeysIn (changed_keys change key (keys_of img)) places n
keys_added change img key rank places n is c k =
    let d : Changing Add img key rank = rw is at c in
    rw (is, added_at key (keys_of img) (facts img d.accepted).keys.asc (not_listed img key d.can), ← d.rank_is) k

pub keys_withdrawn : (change : Change) (img : List ℕ) (key rank : ℕ) (places : List ℕ) (n : ℕ) → change ≡ Withdraw → Changing change img key rank → KeysIn (delete_at rank (keys_of img)) places n
    → KeysIn (changed_keys change key (keys_of img)) places n
keys_withdrawn change img key rank places n is c k =
    let d : Changing Withdraw img key rank = rw is at c in
    rw (is, withdrawn_at key (keys_of img) (facts img d.accepted).keys.asc (is_listed img key d.can), ← d.rank_is) k

-- the writer's answer for the first places is that for the changed keys
pub written_changed : (lift : ℕ) (keys places : List ℕ) (n : ℕ) (out : List ℕ) (w : Result ℕ Refusal) (out' : List ℕ) (given : ℕ) → given ≡ lift → KeysIn keys places n
    → WrittenKeys (either_question given) given (take (n - 0) places) out w out' → WrittenKeys (either_question lift) lift keys out w out'
written_changed lift keys places n out w out' given e k d =
    let z : n - 0 ≡ n = omega arith in
    let same : take (n - 0) places ≡ keys = ap (λ (m : ℕ). take m places) z ∙ k.held in
    rw (← e, ← same) d

-- the records at the rank, and how many
records_are : (change : Change) (img records : List ℕ) → Accepted img → length records ≡ records_length (key_count img) → (key : ℕ) → can_change change (is_in key (keys_of img)) ≡ true
    → (changed_records change img records key ≡ records_at change (rank_in (keys_of img) key) records) × (length (changed_records change img records key) ≡ changed_count change (length records))
unfolding changed_count
records_are Add img records i size key can =
    let e = records_added img records i size key (not_listed img key can) in
    (e, ap length e ∙ length_insert (rank_in (keys_of img) key) 0 records (omega (arith, rank_le (keys_of img) key, (facts img i).keys.count_is)))
records_are Withdraw img records i size key can =
    let f = (facts img i).keys in
    let m = is_listed img key can in
    let e = records_withdrawn img records i size key m in
    (e, ap length e ∙ omega (arith, length_delete (rank_in (keys_of img) key) records (omega (arith, (at_rank_lem (keys_of img) key f.asc m).within, f.count_is))))

-- ---- by key, after 1 to 13

module _ (change : Change) (img records : List ℕ) (key : ℕ) (image' records' : List ℕ) where
  abbrev keys' : List ℕ
  keys' = changed_keys change key (keys_of img)

  abbrev size' : ℕ
  size' = length (changed_image change img key)

  abbrev room_for : Question
  room_for = (17, leb size' (length image'))

  module _ (is-in : Bool) (rank : ℕ) (at : Located img key is-in rank) (n : ℕ) (count : n ≡ key_count img) where
    asked : (o : Option ℕ) → o ≡ first_no (change_questions change n (length records) is-in (length records')) → o ≡ first_no (change_questions change (key_count img) (length records) (is_in key (keys_of img)) (length records'))
    asked o first = first ∙ ap₂ (λ (m : ℕ) (t : Bool). first_no (change_questions change m (length records) t (length records'))) count at.listed_is

    -- 21, 30, 14, or 17 of the records' output
    pub key_refused : (r : Refusal) → some (number_of r) ≡ first_no (change_questions change n (length records) is-in (length records')) → KeyEdited change img records key image' records' (Err r) image' records'
    unfolding edit_questions settle outcome filled
    key_refused r first =
        record { returned = ap (λ (o : Option ℕ). outcome o size') (sym (after_no _ (room_for ∷ []) (number_of r) (sym (asked _ first)))); image = refl; recorded = refl }

    -- all of these got a yes
    module _ (passed : none ≡ first_no (change_questions change n (length records) is-in (length records'))) where
      yeses : All Yes (change_questions change (key_count img) (length records) (is_in key (keys_of img)) (length records'))
      yeses = yes_of_none _ (sym (asked _ passed))

      size_is : length records ≡ records_length (key_count img)
      unfolding change_questions
      size_is = eqb-true (length records) (records_length (key_count img)) yeses.0

      can : can_change change (is_in key (keys_of img)) ≡ true
      unfolding change_questions
      can = yeses.1.0

      few : changed_count change (key_count img) ≤ 4096
      unfolding change_questions
      few = few_keys change img at.accepted yeses.1.1.0

      pub changing : Changing change img key rank
      changing = record { accepted = at.accepted; small = at.small; rank_is = at.rank_is; can = can; few = few }

      pub record_room : RecordRoom change records n rank records'
      unfolding change_questions
      record_room =
          let room : records_length (changed_count change (key_count img)) ≤ length records' = leb-true (records_length (changed_count change (key_count img))) (length records') yeses.1.1.1.0 in
          let f = facts img at.accepted in
          record { size = omega (arith, count, size_is); few = omega (arith, count, f.few); within = omega (arith, at.rank_is, rank_le (keys_of img) key, f.keys.count_is, count); room = go change room }
        where
          go : (c : Change) → records_length (changed_count c (key_count img)) ≤ length records' → changed_count c (length records) ≤ length records'
          go Add h = (unfold changed_count in omega (arith, size_is))
          go Withdraw h = (unfold changed_count in omega (arith, size_is))

      -- the writer's answer is the edit's
      edit-is : settle (edit_questions change img records key image' records') size' ≡ settle (room_for ∷ []) size'
      unfolding edit_questions settle
      edit-is = ap (λ (o : Option ℕ). outcome o size') (after_yes _ (room_for ∷ []) (sym (asked _ passed)))

      writer-is : write_keys (either_question (lift_of img)) (lift_of img) keys' image' ≡ settle (room_for ∷ []) size'
      unfolding write_keys settle room_question changed_image either_question
      writer-is =
          let f = facts img at.accepted in
          let w = list_writable keys' (omega (arith, changed_length change img at.accepted key can, few)) (ascending_of keys' (asc_changed key (keys_of img) f.keys.asc change)) in
          ap (λ (o : Option ℕ). outcome o (length (image_of (lift_of img) keys'))) (asked_yes 35 _ _ (le-leb (lift_of img) 999 f.lift) ∙ after_yes (list_questions keys') _ w)

      module _ (w : Result ℕ Refusal) (image'' : List ℕ) (d : WrittenKeys (either_question (lift_of img)) (lift_of img) keys' image' w image'') where
        outcome-is : outcome_of w ≡ settle (edit_questions change img records key image' records') size'
        outcome-is = d.returned ∙ writer-is ∙ sym edit-is

        bytes-are : (o : Outcome ℕ) → outcome_of w ≡ o → image'' ≡ filled o (changed_image change img key) image'
        unfolding buffer_after_write_keys changed_image
        bytes-are o e = d.bytes ∙ ap (λ (q : Outcome ℕ). filled q (image_of (lift_of img) keys') image') (sym d.returned ∙ e)

      -- 17 of the image's output
      pub key_short : (r : Refusal) (image'' : List ℕ) → WrittenKeys (either_question (lift_of img)) (lift_of img) keys' image' (Err r) image'' → KeyEdited change img records key image' records' (Err r) image'' records'
      unfolding filled
      key_short r image'' d = record { returned = outcome-is (Err r) image'' d; image = bytes-are (Err r) image'' d (refused (number_of r)) refl; recorded = refl }

      -- the image is written, and the records are moved
      pub key_done : (size : ℕ) (image'' : List ℕ) → WrittenKeys (either_question (lift_of img)) (lift_of img) keys' image' (Ok size) image'' → (records'' : List ℕ)
          → records'' ≡ records_at change rank records ++ drop (changed_count change (length records)) records' → KeyEdited change img records key image' records' (Ok size) image'' records''
      unfolding filled
      key_done size image'' d records'' r =
          let (same, count) = records_are change img records at.accepted size_is key can in
          record {
            returned = outcome-is (Ok size) image'' d;
            image = bytes-are (Ok size) image'' d (returns size) refl;
            recorded = r ∙ moved same count;
          }
        where
          moved : changed_records change img records key ≡ records_at change (rank_in (keys_of img) key) records → length (changed_records change img records key) ≡ changed_count change (length records)
              → records_at change rank records ++ drop (changed_count change (length records)) records' ≡ changed_records change img records key ++ drop (length (changed_records change img records key)) records'
          moved same count = ap (λ (k : ℕ). records_at change k records ++ drop (changed_count change (length records)) records') at.rank_is ∙ (λ i. sym same i ++ drop (sym count i) records')

-- ---- the job, from lookup's answer

module _ (change : Change) (img records : List ℕ) (holder slot : ℕ) (image' records' : List ℕ) where
  abbrev key : ℕ
  key = key_of holder slot

  abbrev size : ℕ
  size = length (changed_image change img key)

  -- a refused image
  pub edit_refused : (r : Refusal) → refused (number_of r) ≡ lookup img holder slot → EditedRight change img records holder slot image' records' (Err r) image' records'
  unfolding lookup edit settle outcome
  edit_refused r e = right (sym (ap (λ (o : Option ℕ). outcome o size) (after_no (image_questions img) _ (number_of r) (no_of_refused (image_questions img) (lookup_answer img key) (number_of r) (sym e)))))
    where
      right : refused (number_of r) ≡ edit change img records holder slot image' records' → EditedRight change img records holder slot image' records' (Err r) image' records'
      right d =
          record {
            returned = d;
            image = unfold image_after_edit filled in ap (λ (o : Outcome ℕ). filled o (changed_image change img key) image') d;
            recorded = unfold records_after_edit filled in ap (λ (o : Outcome ℕ). filled o (changed_records change img records key) records') d;
          }

  -- an accepted one, and the edit by key
  module _ (answer : LookupAnswer) (e : returns answer ≡ lookup img holder slot) where
    edit-asked : edit change img records holder slot image' records' ≡ settle (edit_questions change img records key image' records') size
    unfolding edit settle
    edit-asked = ap (λ (o : Option ℕ). outcome o size) (after_yes (image_questions img) _ (image_yes img holder slot answer (sym e)))

    pub edit-by_key : (n : ℕ) → n ≡ key → (r : Result ℕ Refusal) (image'' records'' : List ℕ) → KeyEdited change img records n image' records' r image'' records'' → EditedRight change img records holder slot image' records' r image'' records''
    unfolding image_after_edit records_after_edit
    edit-by_key n key-is r image'' records'' made =
        let k : KeyEdited change img records key image' records' r image'' records'' = rw key-is at made in
        let d : outcome_of r ≡ edit change img records holder slot image' records' = k.returned ∙ sym edit-asked in
        record {
          returned = d;
          image = k.image ∙ ap (λ (o : Outcome ℕ). filled o (changed_image change img key) image') d;
          recorded = k.recorded ∙ ap (λ (o : Outcome ℕ). filled o (changed_records change img records key) records') d;
        }

-- where the key stands
module _ (img : List ℕ) (holder slot : ℕ) (bytes : All Byte img) (key : ℕ) (key-is : key ≡ key_of holder slot) where
  small : key < 4294967296
  small = rw key-is (key_of_small holder slot)

  pub located : (found : Found) → returns (answer_of found) ≡ lookup img holder slot → Located img key (is_some (found_rank found)) (smaller_in found)
  located (Absent smaller) e =
      let o = of_absent img holder slot smaller (sym e) in
      record { accepted = image_accepted img holder slot (absent smaller) (sym e) bytes; small = small; listed_is = rw key-is (sym o.0); rank_is = rw key-is (sym o.1) }
  located (Listed rank pages) e =
      let o = of_listed img holder slot rank pages (sym e) in
      record { accepted = image_accepted img holder slot (listed rank pages) (sym e) bytes; small = small; listed_is = rw key-is (sym o.0); rank_is = rw key-is (sym o.1) }
