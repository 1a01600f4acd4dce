-- `holder::holder_record` meets its contract. Assumes nothing.
use mathlib.Core.Path.{sym, ◌∙◌}
use native.Mathlib.Omega.{arith}
use Rattle.subtries.proofs.Kept.{no_spots}
use Rattle.walk.proofs.Whole.{image_long, ready_of}
use Rattle.holder.proofs.Subtries.{empty_record, has_bits_start, whole_record}
use Rattle.holder.proofs.holder_record.Goals as goal

pub key_count-requires : goal.key_count-requires
key_count-requires c = image_long c.requires.0

pub returns-then-key_count-eq0 : goal.returns-then-key_count-eq0
returns-then-key_count-eq0 c = sym (empty_record c.requires.0 c.args.records.now c.args.holder (sym c.key_count.ensures.0 ∙ c.if-key_count-eq0.true))

pub record_below-requires : goal.record_below-requires
record_below-requires c =
    let r = ready_of c.requires.0 (λ z. c.if-key_count-eq0.false (c.key_count.ensures.0 ∙ z)) in
    (has_bits_start r c.args.holder (omega arith), omega arith, no_spots c.args.image.now, c.requires.1)

pub returns : goal.returns
returns c =
    let r = ready_of c.requires.0 (λ z. c.if-key_count-eq0.false (c.key_count.ensures.0 ∙ z)) in
    c.record_below.ensures.0 ∙ whole_record r c.args.records.now c.args.holder
