-- `gate::lockout_over` meets its contract. Assumes nothing.
use borrow.Author.Tests.{eq-eqb, ne_eqb}
use Rattle.format.specs.Question.{is_zero}
use Rattle.format.specs.Scan.{lockout_over}
use Rattle.gate.proofs.lockout_over.Goals as goal

pub returns-then-last-eq0 : goal.returns-then-last-eq0
unfolding lockout_over is_zero
returns-then-last-eq0 c = rw (eq-eqb _ 0 c.if-last-eq0.true)

pub returns : goal.returns
unfolding lockout_over is_zero
returns c = rw (ne_eqb _ 0 c.if-last-eq0.false)
