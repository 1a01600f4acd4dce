-- `gate::at_gate` meets its contract: at each return the questions before got a yes. Assumes nothing.
use mathlib.Core.Bool.{Bool, true}
use mathlib.Core.List.{List, [], ◌∷◌}
use mathlib.Core.Path.{◌≡◌, refl, sym, ap, ◌∙◌}
use Prim.Native.Nat.{ℕ, ◌+◌, ◌<◌}
use native.Mathlib.Omega.{arith}
use lib.Dec.{eqb, ltb}
use lib.ListN.{length, get_or}
use borrow.Author.Tests.{eq-eqb, ne_eqb, lt-ltb, le-ltb}
use Rattle.format.specs.Question.{Question, first_no, outcome, settle}
use Rattle.format.specs.Scan.{gate_questions, is_lane, lane_place}
use Rattle.format.proofs.Questions.{Past, no_to, yes_to}
use Rattle.format.specs.Refusal.{outcome_of}
use Rattle.format.specs.declared.refusal.Refusal.TheVariants.{Admission}
use Rattle.format.proofs.Jobs.{refusal_settled}
use Rattle.std.specs.Prelude.{Option, None, Some, is_some, ok_or, unwrap_or}
use Rattle.format.proofs.Histories.{lane_range}
use Rattle.gate.proofs.at_gate.Goals as goal

-- the questions that got a yes so far, where `n` is the key count that was read
module _ (fits : Bool) (keys : ℕ) (records : List ℕ) (lane : ℕ) (listed : Bool) (time : ℕ) where
  abbrev questions : List Question
  questions = gate_questions fits keys records lane listed time

  -- the length that is asked for
  asked_21 : (n : ℕ) → n ≡ keys → eqb (length records) (n + 8) ≡ eqb (length records) (keys + 8)
  asked_21 n n_is = ap (λ (m : ℕ). eqb (length records) (m + 8)) n_is

  -- the count that is read is the lane's
  asked_23 : (n place : ℕ) (below : Bool) → n ≡ keys → place ≡ lane_place n lane → below ≡ ltb (get_or records place 0) 4294967295
      → below ≡ ltb (get_or records (lane_place keys lane) 0) 4294967295
  asked_23 n place below n_is place_is below_is =
      below_is ∙ ap (λ (i : ℕ). ltb (get_or records i 0) 4294967295) (place_is ∙ ap (λ (m : ℕ). lane_place m lane) n_is)

  module _ (fit : Bool) (fit_is : fit ≡ fits) (fit_yes : fit ≡ true) where
    past36 : Past 1 questions
    unfolding gate_questions
    past36 = yes_to 36 _ _ _ _ refl fit_is fit_yes

    module _ (right : Bool) (right_is : right ≡ is_lane lane) (right_yes : right ≡ true) where
      past29 : Past 2 questions
      unfolding gate_questions
      past29 = yes_to 29 _ _ _ _ past36 right_is right_yes

      module _ (n : ℕ) (n_is : n ≡ keys) (length_right : length records ≡ n + 8) where
        past21 : Past 3 questions
        unfolding gate_questions
        past21 = yes_to 21 _ _ _ _ past29 (asked_21 n n_is) (eq-eqb _ _ length_right)

        module _ (early : time < 4294967295) where
          past22 : Past 4 questions
          unfolding gate_questions
          past22 = yes_to 22 _ _ _ _ past21 refl (lt-ltb time 4294967295 early)

          module _ (place : ℕ) (place_is : place ≡ lane_place n lane) (below : Bool) (below_is : below ≡ ltb (get_or records place 0) 4294967295) (below_yes : below ≡ true) where
            past23 : Past 5 questions
            unfolding gate_questions
            past23 = yes_to 23 _ _ _ _ past22 (asked_23 n place below n_is place_is below_is) below_yes

            only_24 : first_no questions ≡ first_no ((24, listed) ∷ [])
            unfolding gate_questions
            only_24 = past23

-- 24 alone is left, and the rank tells
last_settled : (rank : Option ℕ) (qs : List Question) → first_no qs ≡ first_no ((24, is_some rank) ∷ []) → outcome_of (ok_or rank Admission) ≡ settle qs (unwrap_or rank 0)
unfolding settle first_no outcome
last_settled None qs p = sym (ap (λ o. outcome o 0) p)
last_settled (Some rank) qs p = sym (ap (λ o. outcome o rank) p)

pub returns-then-not-fits : goal.returns-then-not-fits
unfolding gate_questions
returns-then-not-fits c = refusal_settled _ _ 36 (no_to 36 _ _ _ _ refl c.lift_fits-fits.ensures c.if-not-fits.true)

pub returns-then-not-lane_right : goal.returns-then-not-lane_right
unfolding gate_questions
returns-then-not-lane_right c =
    refusal_settled _ _ 29
    (no_to 29 _ _ _ _
    (past36 _ _ _ _ _ _ _ c.lift_fits-fits.ensures c.if-not-fits.false)
    c.is_lane-lane_right.ensures c.if-not-lane_right.true)

pub returns-then-not-length_right : goal.returns-then-not-length_right
unfolding gate_questions
returns-then-not-length_right c =
    refusal_settled _ _ 21
    (no_to 21 _ _ _ _
    (past29 _ _ _ _ _ _ _ c.lift_fits-fits.ensures c.if-not-fits.false _ c.is_lane-lane_right.ensures c.if-not-lane_right.false)
    (ap (λ (m : ℕ). eqb (length c.args.records.now) (m + 8)) c.key_count-keys.ensures.0) (ne_eqb _ _ c.if-not-length_right.true))

pub returns-then-time-eq4294967295 : goal.returns-then-time-eq4294967295
unfolding gate_questions
returns-then-time-eq4294967295 c =
    refusal_settled _ _ 22
    (no_to 22 _ _ _ _
    (past21 _ _ _ _ _ _ _ c.lift_fits-fits.ensures c.if-not-fits.false _ c.is_lane-lane_right.ensures c.if-not-lane_right.false _ c.key_count-keys.ensures.0 c.if-not-length_right.false)
    refl (le-ltb c.args.time 4294967295 (omega (arith, c.if-time-eq4294967295.true))))

pub lane_place-count_place-requires : goal.lane_place-count_place-requires
lane_place-count_place-requires c =
    let range = lane_range _ (sym c.is_lane-lane_right.ensures ∙ c.if-not-lane_right.false) in
    (c.key_count-keys.ensures.1, range.0, range.1)

pub below_end-requires : goal.below_end-requires
below_end-requires c =
    let size = c.if-not-length_right.false in
    omega (arith, c.lane_place-count_place.ensures, lane_range _ (sym c.is_lane-lane_right.ensures ∙ c.if-not-lane_right.false), size)

pub returns-then-not-below_end : goal.returns-then-not-below_end
unfolding gate_questions
returns-then-not-below_end c =
    refusal_settled _ _ 23
    (no_to 23 _ _ _ _
    (past22 _ _ _ _ _ _ _ c.lift_fits-fits.ensures c.if-not-fits.false _ c.is_lane-lane_right.ensures c.if-not-lane_right.false _ c.key_count-keys.ensures.0 c.if-not-length_right.false (omega (arith, c.if-time-eq4294967295.false)))
    (asked_23 true _ c.args.records.now _ true 0 _ _ _ c.key_count-keys.ensures.0 c.lane_place-count_place.ensures c.below_end.ensures) c.if-not-below_end.true)

pub returns : goal.returns
returns c = rw c.ok_or.ensures.value
    (last_settled c.args.rank _ (only_24 _ _ _ _ _ c.args.time _ c.lift_fits-fits.ensures c.if-not-fits.false _ c.is_lane-lane_right.ensures c.if-not-lane_right.false _ c.key_count-keys.ensures.0 c.if-not-length_right.false (omega (arith, c.if-time-eq4294967295.false)) _ c.lane_place-count_place.ensures _ c.below_end.ensures c.if-not-below_end.false))
