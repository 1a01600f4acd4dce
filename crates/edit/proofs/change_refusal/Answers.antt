-- `edit::change_refusal` meets its contract: at each return the questions before got a yes. Assumes nothing.
use mathlib.Core.Path.{◌≡◌, refl, sym, ap}
use mathlib.Core.Bool.{Bool, true}
use mathlib.Core.List.{List}
use Prim.Native.Nat.{ℕ, ◌+◌, ◌≤◌}
use native.Mathlib.Omega.{arith}
use lib.Dec.{leb}
use borrow.Author.Tests.{eq-eqb, ne_eqb, le-leb, lt-leb}
use Rattle.format.specs.Question.{Question, first_no}
use Rattle.format.proofs.Questions.{Past, no_to, yes_to}
use Rattle.edit.specs.declared.Change.{Change}
use Rattle.edit.specs.Edit.{can_change, change_questions, changed_count, few_enough}
use Rattle.edit.proofs.change_refusal.Goals as goal

-- the room that is asked for
asked_17 : (n places : ℕ) (change : Change) (keys : ℕ) → n ≡ changed_count change keys → leb (n + 8) places ≡ leb (changed_count change keys + 8) places
asked_17 n places change keys e = ap (λ (m : ℕ). leb (m + 8) places) e

-- the questions that got a yes so far
module _ (change : Change) (keys records : ℕ) (listed : Bool) (places : ℕ) where
  abbrev questions : List Question
  questions = change_questions change keys records listed places

  module _ (length_right : records ≡ keys + 8) where
    past21 : Past 1 questions
    unfolding change_questions
    past21 = yes_to 21 _ _ _ _ refl refl (eq-eqb _ _ length_right)

    module _ (can : Bool) (can_is : can ≡ can_change change listed) (can_yes : can ≡ true) where
      past30 : Past 2 questions
      unfolding change_questions
      past30 = yes_to 30 _ _ _ _ past21 can_is can_yes

      module _ (few : Bool) (few_is : few ≡ few_enough change keys) (few_yes : few ≡ true) where
        past14 : Past 3 questions
        unfolding change_questions
        past14 = yes_to 14 _ _ _ _ past30 few_is few_yes

        past17 : (n : ℕ) → n ≡ changed_count change keys → n + 8 ≤ places → Past 4 questions
        unfolding change_questions
        past17 n count_is room = yes_to 17 _ _ _ _ past14 (asked_17 n places change keys count_is) (le-leb _ _ room)

pub returns-then-not-length_right : goal.returns-then-not-length_right
unfolding change_questions
returns-then-not-length_right c = no_to 21 _ _ _ _ refl refl (ne_eqb _ _ c.if-not-length_right.true)

pub returns-then-not-can : goal.returns-then-not-can
unfolding change_questions
returns-then-not-can c = no_to 30 _ _ _ _ (past21 _ _ _ _ _ c.if-not-length_right.false) c.can_change-can.ensures c.if-not-can.true

pub returns-then-not-few : goal.returns-then-not-few
unfolding change_questions
returns-then-not-few c =
    no_to 14 _ _ _ _ (past30 _ _ _ _ _ c.if-not-length_right.false _ c.can_change-can.ensures c.if-not-can.false) c.few_enough-few.ensures c.if-not-few.true

pub returns-then-not-room : goal.returns-then-not-room
unfolding change_questions
returns-then-not-room c =
    no_to 17 _ _ _ _ (past14 _ _ _ _ _ c.if-not-length_right.false _ c.can_change-can.ensures c.if-not-can.false _ c.few_enough-few.ensures c.if-not-few.false)
    (asked_17 _ c.args.places _ _ c.changed_count.ensures.0) (lt-leb _ c.args.places (omega arith))

pub returns : goal.returns
unfolding change_questions first_no
returns c =
    sym
    (past17 _ _ _ _ _ c.if-not-length_right.false _ c.can_change-can.ensures c.if-not-can.false _ c.few_enough-few.ensures c.if-not-few.false _ c.changed_count.ensures.0 c.if-not-room.false)
