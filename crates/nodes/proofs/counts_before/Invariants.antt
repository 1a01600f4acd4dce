-- The loop of `nodes::counts_before`: the counts below `j` are right. Assumes nothing.
use mathlib.Core.Path.{◌≡◌}
use Prim.Native.Nat.{ℕ, ◌*◌, ◌≤◌, ◌<◌}
use lib.ListN.{length, get_or}
use Rattle.nodes.specs.Words.{counts_before}
use Rattle.nodes.proofs.counts_before.Given as goal

abbrev pub invariant-loop-j : goal.invariant-loop-j
invariant-loop-j l = record {
  long : length l.before ≡ 9;
  right : (k : ℕ) → k < l.j → get_or l.before k 0 ≡ get_or (counts_before 0 l.word) k 0;
  few : (k : ℕ) → k < l.j → get_or l.before k 0 ≤ 64 * k;
}
