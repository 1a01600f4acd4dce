-- The proof of the cycle of calls {record_at, record_below, record_of_pair}. The measure is the bands left.
-- Assumes nothing.
use mathlib.Core.Path.{refl, sym, ap, ap₂, ◌∙◌}
use Prim.Native.Nat.{◌≤◌, max}
use native.Mathlib.Omega.{arith}
use borrow.Author.Rules.{rules}
use Rattle.walk.proofs.Steps.{root_there}
use Rattle.holder.proofs.Records.{below_key, rank_within}
use Rattle.holder.proofs.Pairs.{pair_both, pair_none, pair_one}
use Rattle.holder.proofs.Subtries.{first_few, pair_has_bits, subtrie_record}
use Rattle.holder.proofs.Holder.+record_at_record_below_record_of_pair.Goals as goal

-- ---- an out-link

pub record_at-offset_bounds-self-rank : goal.record_at-offset_bounds-self-rank
record_at-offset_bounds-self-rank t c =
    let h = rank_within c.requires.0 c.if-band-eq9.true c.args.self.now.records.now c.requires.2 in
    search rules

pub record_at-bounds-self-rank : goal.record_at-bounds-self-rank
record_at-bounds-self-rank t c =
    rank_within c.requires.0 c.if-band-eq9.true c.args.self.now.records.now c.requires.2

pub record_at-returns-then-band-eq9 : goal.record_at-returns-then-band-eq9
record_at-returns-then-band-eq9 t c =
    (below_key c.requires.0 c.if-band-eq9.true c.args.self.now.records.now, c.requires.1)

pub record_at-record_below-requires : goal.record_at-record_below-requires
record_at-record_below-requires t c =
    let p = c.requires in
    let h : c.args.band ≤ 8 = omega (arith, p.0.opening.to, c.if-band-eq9.false) in
    (omega (arith, c.requires.0), (rw (ap (λ x. x.0) c.cross.ensures) p.0, h, p.1, p.2))

pub record_at-returns : goal.record_at-returns
record_at-returns t c = rw (ap (λ x. x.0) c.cross.ensures) at c.record_below.ensures

-- ---- a pair of endings

pub record_of_pair-returns-then-pair-eq0 : goal.record_of_pair-returns-then-pair-eq0
record_of_pair-returns-then-pair-eq0 t c =
    (pair_none _ _ _ _ _ _ c.if-pair-eq0.true, c.requires.1)

pub record_of_pair-record_at-left-requires : goal.record_of_pair-record_at-left-requires
record_of_pair-record_at-left-requires t c =
    let p = c.requires in
    let has = p.0.first c.if-pair-eq0.false in
    (omega (arith, c.requires.0, has.opening.to), (has, p.1, p.2))

pub record_of_pair-returns-then-pair-lt3 : goal.record_of_pair-returns-then-pair-lt3
record_of_pair-returns-then-pair-lt3 t c =
    let r = c.record_at-left.ensures in
    (r.0 ∙ pair_one _ _ _ _ _ _ c.if-pair-eq0.false c.if-pair-lt3.true, r.1)

pub record_of_pair-overflow_add-pair : goal.record_of_pair-overflow_add-pair
record_of_pair-overflow_add-pair t c = let p = c.requires in record { fits = omega (arith, p.0.few) }

pub record_of_pair-record_at-right-requires : goal.record_of_pair-record_at-right-requires
record_of_pair-record_at-right-requires t c =
    let p = c.requires in
    let has = p.0.second (omega (arith, p.0.small, c.if-pair-lt3.false)) in
    (omega (arith, c.requires.0, has.opening.to), (has, c.record_at-left.ensures.1, p.2))

pub record_of_pair-returns : goal.record_of_pair-returns
record_of_pair-returns t c =
    let r = c.record_at-right.ensures in
    let l = c.record_at-left.ensures in
    (c.max.ensures ∙ ap₂ max l.0 r.0 ∙ pair_both _ _ _ _ _ _ (omega (arith, c.if-pair-lt3.false)), r.1)

-- ---- a root

pub record_below-next_subtrie-subtrie-requires : goal.record_below-next_subtrie-subtrie-requires
record_below-next_subtrie-subtrie-requires t c =
    let p = c.requires in
    (p.0.opening.ready, p.0.opening.from, p.1, root_there p.0.opening p.1 refl, p.2)

pub record_below-of-requires : goal.record_below-of-requires
record_below-of-requires t c =
    let p = c.requires in
    (first_few p.0 p.1 c.next_subtrie-subtrie.ensures.0, omega (arith, c.first_ending-ending.ensures.1))

pub record_below-record_of_pair-upper-requires : goal.record_below-record_of_pair-upper-requires
record_below-record_of_pair-upper-requires t c =
    let p = c.requires in
    let q = pair_has_bits p.0 p.1 c.next_subtrie-subtrie.ensures.0 c.args.self.now.records.now 0 _ (omega arith) (omega (arith, c.first_ending-ending.ensures.0)) c.of.ensures in
    (omega (arith, c.requires.0, p.1), (q.has_bits, c.next_subtrie-subtrie.ensures.1, p.3))

pub record_below-of-requires-2 : goal.record_below-of-requires-2
record_below-of-requires-2 t c =
    let p = c.requires in
    (first_few p.0 p.1 c.next_subtrie-subtrie.ensures.0, omega (arith, c.first_ending-ending.ensures.1))

pub record_below-record_of_pair-lower-requires : goal.record_below-record_of_pair-lower-requires
record_below-record_of_pair-lower-requires t c =
    let p = c.requires in
    let q = pair_has_bits p.0 p.1 c.next_subtrie-subtrie.ensures.0 c.args.self.now.records.now 1 _ (omega arith) (omega (arith, c.first_ending-ending.ensures.0)) c.of-2.ensures in
    (omega (arith, c.requires.0, p.1), (q.has_bits, c.record_of_pair-upper.ensures.1, p.3))

pub record_below-returns : goal.record_below-returns
record_below-returns t c =
    let p = c.requires in
    let q = rw c.first_ending-ending.ensures.0 at c.of.ensures in
    let q' = rw c.first_ending-ending.ensures.0 at c.of-2.ensures in
    (c.max.ensures ∙ ap₂ max c.record_of_pair-upper.ensures.0 c.record_of_pair-lower.ensures.0 ∙ sym (subtrie_record p.0 p.1 c.next_subtrie-subtrie.ensures.0 c.args.self.now.records.now q q'), c.record_of_pair-lower.ensures.1)
