-- `repair::roots::only_roots` meets its contract. The loop's invariant: the page's roots, where it has any, are from `low` to `high`. Assumes nothing.
use Prim.Native.Nat.{◌+◌, ◌-◌}
use Rattle.repair.proofs.Seeking.{Seek}
use Rattle.repair.proofs.roots.only_roots.Given as goal

abbrev pub invariant-loop-low : goal.invariant-loop-low
invariant-loop-low l = Seek l.words.word l.words.before l.low l.high l.known l.known_end

abbrev pub decreases-loop-low : goal.decreases-loop-low
decreases-loop-low l = l.high + 1 - l.low
