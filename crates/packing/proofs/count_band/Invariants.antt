-- `packing::count_band` meets its contract. The invariant is `Counting`, of the prefixes as they were before the first was replaced, and the root of the last read.
use mathlib.Core.Path.{◌≡◌}
use Prim.Native.Nat.{◌/◌}
use lib.ListN.{set}
use Rattle.packing.proofs.Counting.{Counting}
use Rattle.packing.proofs.count_band.Given as goal

abbrev pub invariant-loop-i : goal.invariant-loop-i
invariant-loop-i l = Counting (set l.initial.keys 0 l.initial.x) l.keys l.x l.roots l.packing l.size l.i × (l.root ≡ l.x / 16)
