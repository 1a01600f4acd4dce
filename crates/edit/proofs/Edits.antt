-- What an edit does, and what undoes it. The statement is specs/Laws.antt.
-- Assumes nothing.
use mathlib.Core.Path.{◌≡◌, refl, sym, ap, ap₂, ◌∙◌, subst}
use mathlib.Core.Bool.{not}
use mathlib.Core.List.{List, Memᴰ}
use Prim.Native.Nat.{ℕ, ◌+◌, ◌≤◌}
use native.Mathlib.Omega.{arith}
use borrow.Author.Tests.{eq-eqb, eqb-true, le-leb}
use lib.ListN.{length, set}
use Rattle.format.specs.Seq.{All, delete_at, insert_at, rank_in}
use Rattle.format.specs.Page.{Byte}
use Rattle.format.specs.Key.{Admissible, key_of}
use Rattle.format.specs.Image.{key_count, keys_of}
use Rattle.format.specs.Question.{Outcome, Yes, filled, image_questions, returns}
use Rattle.format.specs.Writer.{image_of}
use Rattle.format.specs.Scan.{records_length}
use Rattle.format.proofs.Accepted.{accepted_of_yes, facts}
use Rattle.format.proofs.Descent.{at_rank_lem, is_in-mem, is_in-not}
use Rattle.format.proofs.Insertion.{rank_put}
use Rattle.format.proofs.Jobs.{settle-yes, yes_of_returns}
use Rattle.format.proofs.Lists.{all_append, all_left, all_right, append_same}
use Rattle.format.proofs.Members.{rank_le}
use Rattle.format.proofs.Questions.{none_of_yes, yes_of_none}
use Rattle.edit.specs.declared.Change.{Change}
use Rattle.edit.specs.declared.Change.TheVariants.{Add, Withdraw}
use Rattle.edit.specs.Edit.{can_change, change_questions, changed_count, changed_image, changed_keys, changed_records, edit, edit_questions, few_enough, image_after_edit, records_after_edit}
use Rattle.edit.specs.Laws.{Changed, DoneIn, EditLaws, Edits}
use Rattle.edit.proofs.ChangedKeys.{add_length, add_undone, added_key, of_withdraw, withdraw_undone}
use Rattle.edit.proofs.AtRank.{added_at, changed_length, delete_insert, insert_delete, is_listed, records_added, records_withdrawn, not_listed}
use Rattle.edit.proofs.Outputs.{Editable, changed_is, new_accepted, new_count, new_keys, new_lift, new_size}

-- ---- the job

module _ (change : Change) (img records : List ℕ) (holder slot : ℕ) where
  -- a job that returns got a yes throughout
  editable : All Byte img → Admissible (holder, slot) → (image-out records-out : List ℕ) (size : ℕ) → edit change img records holder slot image-out records-out ≡ returns size
      → Editable change img records holder slot × (length (changed_image change img (key_of holder slot)) ≡ size)
  unfolding edit edit_questions change_questions
  editable bytes small image-out records-out size returned =
      let (none-no, same) = yes_of_returns _ _ size returned in
      let all_yes = yes_of_none _ none-no in
      let asked = all_right Yes (image_questions img) (edit_questions change img records (key_of holder slot) image-out records-out) all_yes in (
        record {
          accepted = accepted_of_yes img bytes (none_of_yes (image_questions img) (all_left Yes (image_questions img) (edit_questions change img records (key_of holder slot) image-out records-out) all_yes));
          size = eqb-true (length records) (records_length (key_count img)) asked.0;
          admissible = small;
          can = asked.1.0;
          few = asked.1.1.0;
        },
        same,
      )

  -- and gets it from any outputs with room
  module _ (e : Editable change img records holder slot) (image-out records-out : List ℕ) where
    answers : length (changed_image change img (key_of holder slot)) ≤ length image-out → length (changed_records change img records (key_of holder slot)) ≤ length records-out
        → edit change img records holder slot image-out records-out ≡ returns (length (changed_image change img (key_of holder slot)))
    unfolding edit edit_questions change_questions
    answers room record_room =
        let count : key_count (changed_image change img (key_of holder slot)) ≡ changed_count change (key_count img) =
        sym (new_count change img records holder slot e) ∙ ap length (new_keys change img records holder slot e) ∙ changed_length change img e.accepted (key_of holder slot) e.can in
        settle-yes _ _
        (none_of_yes _
        (all_append Yes (image_questions img) _ (yes_of_none (image_questions img) (facts img e.accepted).all_yes) (
          eq-eqb (length records) (records_length (key_count img)) e.size,
          (
            e.can,
            (
              e.few,
              (
                le-leb (records_length (changed_count change (key_count img))) (length records-out) (omega (arith, new_size change img records holder slot e)),
                (le-leb (length (changed_image change img (key_of holder slot))) (length image-out) room, tt),
              ),
            ),
          ),
        )))

    done-in : edit change img records holder slot image-out records-out ≡ returns (length (changed_image change img (key_of holder slot)))
        → DoneIn change img records holder slot (changed_image change img (key_of holder slot)) (changed_records change img records (key_of holder slot)) image-out records-out
    unfolding image_after_edit records_after_edit filled
    done-in r =
        record {
          returned = r;
          image = ap (λ (o : Outcome ℕ). filled o (changed_image change img (key_of holder slot)) image-out) r;
          recorded = ap (λ (o : Outcome ℕ). filled o (changed_records change img records (key_of holder slot)) records-out) r;
        }

  takes : Editable change img records holder slot → Edits change img records holder slot (changed_image change img (key_of holder slot)) (changed_records change img records (key_of holder slot))
  takes e =
      record {
        bytes = e.accepted.bytes;
        admissible = e.admissible;
        fits = new_size change img records holder slot e;
        done = λ image-out records-out room record_room. done-in e image-out records-out (answers e image-out records-out room record_room);
      }

  -- what it takes an image and its records to are these, and nothing else
  module _ (img' records' : List ℕ) (d : Edits change img records holder slot img' records') where
    abbrev own : DoneIn change img records holder slot img' records' img' records'
    own = d.done img' records' (omega arith) (omega arith)

    was-editable : Editable change img records holder slot
    was-editable = (editable d.bytes d.admissible img' records' (length img') own.returned).0

    image_is : changed_image change img (key_of holder slot) ≡ img'
    image_is =
        let size = (editable d.bytes d.admissible img' records' (length img') own.returned).1 in
        let Filled-in = done-in was-editable img' records' (own.returned ∙ ap returns (sym size)) in
        (append_same (changed_image change img (key_of holder slot)) _ img' _ size (sym Filled-in.image ∙ own.image)).0

    records_is : changed_records change img records (key_of holder slot) ≡ records'
    records_is =
        let size = (editable d.bytes d.admissible img' records' (length img') own.returned).1 in
        let Filled-in = done-in was-editable img' records' (own.returned ∙ ap returns (sym size)) in
        (append_same (changed_records change img records (key_of holder slot)) _ records' _
        (new_size change img records holder slot was-editable ∙ ap (λ (i : List ℕ). records_length (key_count i)) image_is ∙ sym d.fits)
        (sym Filled-in.recorded ∙ own.recorded)).0

-- ---- one edit after the other

module _ (img records : List ℕ) (holder slot : ℕ) where
  abbrev own_key : ℕ
  own_key = key_of holder slot

  abbrev rank : ℕ
  rank = rank_in (keys_of img) own_key

  -- withdrawn after it was added
  module _ (e : Editable Add img records holder slot) where
    abbrev sold : List ℕ
    sold = changed_image Add img own_key

    abbrev sold-records : List ℕ
    sold-records = changed_records Add img records own_key

    out : Memᴰ own_key (keys_of img) → ⊥
    out = not_listed img own_key e.can

    there : Memᴰ own_key (keys_of sold)
    there = rw (new_keys Add img records holder slot e) (added_key own_key (keys_of img))

    back-editable : Editable Withdraw sold sold-records holder slot
    unfolding can_change few_enough
    back-editable =
        record { accepted = new_accepted Add img records holder slot e; size = new_size Add img records holder slot e; admissible = e.admissible; can = is_in-mem own_key (keys_of sold) there; few = refl }

    image_back : changed_image Withdraw sold own_key ≡ img
    unfolding changed_image
    image_back =
        let f = facts img e.accepted in
        ap₂ image_of (new_lift Add img records holder slot e) (ap (changed_keys Withdraw own_key) (new_keys Add img records holder slot e) ∙ add_undone own_key (keys_of img) f.keys.asc out) ∙ f.back

    rank_same : rank_in (keys_of sold) own_key ≡ rank
    rank_same = ap (λ (l : List ℕ). rank_in l own_key) (new_keys Add img records holder slot e ∙ added_at own_key (keys_of img) (facts img e.accepted).keys.asc out) ∙ rank_put rank own_key (keys_of img)

    records-back : changed_records Withdraw sold sold-records own_key ≡ records
    records-back =
        let f = (facts img e.accepted).keys in
        records_withdrawn sold sold-records back-editable.accepted back-editable.size own_key there
        ∙ ap₂ (λ (n : ℕ) (l : List ℕ). delete_at n l) rank_same (records_added img records e.accepted e.size own_key out)
        ∙ delete_insert rank 0 records (omega (arith, rank_le (keys_of img) own_key, f.count_is, e.size))

  -- added after it was withdrawn
  module _ (e : Editable Withdraw img records holder slot) where
    abbrev less : List ℕ
    less = changed_image Withdraw img own_key

    abbrev less-records : List ℕ
    less-records = changed_records Withdraw img records own_key

    was-there : Memᴰ own_key (keys_of img)
    was-there = is_listed img own_key e.can

    gone : Memᴰ own_key (keys_of less) → ⊥
    gone m = (of_withdraw own_key (keys_of img) own_key (rw (new_keys Withdraw img records holder slot e) at m)).1 refl

    keys-again : changed_keys Add own_key (keys_of less) ≡ keys_of img
    keys-again = ap (changed_keys Add own_key) (new_keys Withdraw img records holder slot e) ∙ withdraw_undone own_key (keys_of img) (facts img e.accepted).keys.asc was-there

    again-editable : Editable Add less less-records holder slot
    unfolding can_change few_enough changed_count
    again-editable =
        let i = new_accepted Withdraw img records holder slot e in
        let f = facts img e.accepted in
        let g = (facts less i).keys in
        record {
          accepted = i;
          size = new_size Withdraw img records holder slot e;
          admissible = e.admissible;
          can = ap not (is_in-not own_key (keys_of less) gone);
          few = le-leb (key_count less + 1) 4096 (omega (arith, ap length keys-again, add_length own_key (keys_of less) g.asc gone, g.count_is, f.keys.count_is, f.few));
        }

    image-again : changed_image Add less own_key ≡ img
    unfolding changed_image
    image-again = ap₂ image_of (new_lift Withdraw img records holder slot e) keys-again ∙ (facts img e.accepted).back

    rank-kept : rank_in (keys_of less) own_key ≡ rank
    rank-kept =
        let g = (facts less again-editable.accepted).keys in
        sym (ap (λ (l : List ℕ). rank_in l own_key) (sym keys-again ∙ added_at own_key (keys_of less) g.asc gone) ∙ rank_put (rank_in (keys_of less) own_key) own_key (keys_of less))

    records-again : changed_records Add less less-records own_key ≡ set records rank 0
    records-again =
        let f = (facts img e.accepted).keys in
        records_added less less-records again-editable.accepted again-editable.size own_key gone
        ∙ ap₂ (λ (n : ℕ) (l : List ℕ). insert_at n 0 l) rank-kept (records_withdrawn img records e.accepted e.size own_key was-there)
        ∙ insert_delete rank 0 records (omega (arith, (at_rank_lem (keys_of img) own_key f.asc was-there).within, f.count_is, e.size))

-- ---- the statement

-- an edit by what it takes an image to
moved : {change : Change} {img records img₁ records₁ img₂ records₂ : List ℕ} {holder slot : ℕ} → img₁ ≡ img₂ → records₁ ≡ records₂ → Edits change img records holder slot img₁ records₁ → Edits change img records holder slot img₂ records₂
moved {change} {img} {records} {holder = holder} {slot = slot} p q d = subst (λ (z : List ℕ × List ℕ). Edits change img records holder slot z.0 z.1) (λ i. (p i, q i)) d

pub edit_laws : EditLaws
edit_laws =
    record {
      returned = λ change img records holder slot bytes small image-out records-out size r. takes change img records holder slot (editable change img records holder slot bytes small image-out records-out size r).0;
      changed = λ change img records holder slot img' records' d.
          subst (λ (z : List ℕ × List ℕ). Changed change img records holder slot z.0 z.1) (λ i. (image_is change img records holder slot img' records' d i, records_is change img records holder slot img' records' d i))
          (changed_is change img records holder slot (was-editable change img records holder slot img' records' d));
      added_withdrawn = λ img records holder slot img' records' d.
          let e = was-editable Add img records holder slot img' records' d in
          subst (λ (z : List ℕ × List ℕ). Edits Withdraw z.0 z.1 holder slot img records) (λ i. (image_is Add img records holder slot img' records' d i, records_is Add img records holder slot img' records' d i))
          (moved (image_back img records holder slot e) (records-back img records holder slot e) (takes Withdraw _ _ holder slot (back-editable img records holder slot e)));
      withdrawn_added = λ img records holder slot img' records' d.
          let e = was-editable Withdraw img records holder slot img' records' d in
          subst (λ (z : List ℕ × List ℕ). Edits Add z.0 z.1 holder slot img (set records (rank_in (keys_of img) (key_of holder slot)) 0)) (λ i. (image_is Withdraw img records holder slot img' records' d i, records_is Withdraw img records holder slot img' records' d i))
          (moved (image-again img records holder slot e) (records-again img records holder slot e) (takes Add _ _ holder slot (again-editable img records holder slot e)));
    }
