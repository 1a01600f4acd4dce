-- `gate::admit` meets its contract. Assumes nothing.
use mathlib.Core.Path.{◌≡◌, refl, sym, ap, ◌∙◌}
use Prim.Native.Nat.{ℕ, ◌+◌}
use native.Mathlib.Omega.{arith}
use lib.ListN.{get_or, length-set, set}
use Rattle.format.specs.Scan.{lane_place, opened, records_after}
use Rattle.format.proofs.Histories.{lane_range}
use Rattle.format.proofs.Opens.{both_yes, no_25, no_26}
use Rattle.gate.proofs.admit.Goals as goal

pub returns-then-not-time_right : goal.returns-then-not-time_right
unfolding records_after
returns-then-not-time_right c = (no_25 _ _ _ _ (sym c.time_right.ensures ∙ c.if-not-time_right.true), refl)

pub returns-then-not-lockout_over : goal.returns-then-not-lockout_over
unfolding records_after
returns-then-not-lockout_over c = (no_26 _ _ _ _ (sym c.time_right.ensures ∙ c.if-not-time_right.false) (sym c.lockout_over.ensures ∙ c.if-not-lockout_over.true), refl)

pub lane_place-count_place-requires : goal.lane_place-count_place-requires
lane_place-count_place-requires c =
    let range = lane_range _ c.requires.2.ends.lane_valid in
    (c.requires.0, range.0, range.1)

pub bounds-records-count_place : goal.bounds-records-count_place
bounds-records-count_place c = omega (arith, c.lane_place-count_place.ensures, lane_range _ c.requires.2.ends.lane_valid, c.requires.2.size)

pub overflow_add-records : goal.overflow_add-records
overflow_add-records c = omega (arith, c.requires.2.ends.time_below)

pub bounds-records-record_place : goal.bounds-records-record_place
bounds-records-record_place c = omega (arith, c.requires.1, c.requires.2.size)

pub overflow_add-records-2 : goal.overflow_add-records-2
overflow_add-records-2 c =
    let same : get_or c.args.records.now c.lane_place-count_place.result 0 ≡ get_or c.args.records.now (lane_place c.args.keys c.args.lane) 0 = ap (λ (i : ℕ). get_or c.args.records.now i 0) c.lane_place-count_place.ensures in
    omega (arith, c.requires.2.ends.count_below, same)

pub bounds-records-count_place-2 : goal.bounds-records-count_place-2
bounds-records-count_place-2 c =
    simp length-set (omega (arith, c.lane_place-count_place.ensures, lane_range _ c.requires.2.ends.lane_valid, c.requires.2.size))

pub returns : goal.returns
unfolding records_after opened
returns c =
    let a = c.args in (
      both_yes _ _ _ _ (sym c.time_right.ensures ∙ c.if-not-time_right.false) (sym c.lockout_over.ensures ∙ c.if-not-lockout_over.false),
      ap (λ (i : ℕ). set (set a.records.now a.rank (a.time + 1)) i (get_or a.records.now i 0 + 1)) c.lane_place-count_place.ensures,
    )
