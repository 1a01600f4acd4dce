-- `page_writer::fill_level` meets its contract. The invariant is `Marked`, of the prefixes as they were before the last was replaced.
-- Assumes nothing.
use mathlib.Core.Path.{◌∙◌}
use native.Mathlib.Omega.{arith}
use lib.Seq.{set-set, set-get_or}
use Rattle.page_writer.proofs.Levels.{scanned_end}
use Rattle.page_writer.proofs.Marks.{marked_start, twice_small, marked_same, marked_other}
use Rattle.page_writer.proofs.fill_level.Goals as goal

pub loop-i-init : goal.loop-i-init
loop-i-init c = rw (set-set, set-get_or, c.bit_in-bit.ensures) (marked_start _ _ _ _ c.requires)

pub overflow_mul-byte : goal.overflow_mul-byte
overflow_mul-byte c = record { fits = omega (arith, twice_small _ _ _ _ _ _ _ _ _ _ _ _ c.loop-i.invariant c.loop-i-test.true c.if-x-parent.true) }

pub overflow_add-byte-then-x-parent : goal.overflow_add-byte-then-x-parent
overflow_add-byte-then-x-parent c = record { fits = twice_small _ _ _ _ _ _ _ _ _ _ _ _ c.loop-i.invariant c.loop-i-test.true c.if-x-parent.true }

pub loop-i-preserved-then-x-parent : goal.loop-i-preserved-then-x-parent
loop-i-preserved-then-x-parent c = marked_same _ _ _ _ _ _ _ _ _ _ _ _ c.loop-i.invariant c.loop-i-test.true c.if-x-parent.true

pub loop-i-preserved : goal.loop-i-preserved
loop-i-preserved c = rw (c.leave-byte.ensures.0, c.leave-byte.ensures.1, c.bit_in-bit-else-x-parent.ensures)
    (marked_other _ _ _ _ _ _ _ _ _ _ _ _ c.loop-i.invariant c.loop-i-test.true c.if-x-parent.false)

pub returns : goal.returns
returns c = scanned_end _ _ _ _ _ _ _ _ _ _ _ _ (set-set _ _ _ _ ∙ set-get_or _ _ 0) c.loop-i.invariant.scanned c.loop-i-test.false
