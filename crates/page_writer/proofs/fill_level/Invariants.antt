-- `page_writer::fill_level` meets its contract. The invariant is `Marked`, of the prefixes as they were before the last was replaced.
use lib.ListN.{set}
use Rattle.page_writer.proofs.Marks.{Marked}
use Rattle.page_writer.proofs.fill_level.Given as goal

abbrev pub invariant-loop-i : goal.invariant-loop-i
invariant-loop-i l = Marked l.initial.page (set l.initial.keys l.initial.first l.last) l.from l.end l.page l.keys l.i l.parent l.first l.node l.bit l.byte
