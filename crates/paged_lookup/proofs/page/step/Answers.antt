-- `paged_lookup::page::step` meets its contract: from an on bit the steps end at its child. Assumes nothing.
use mathlib.Core.Path.{◌≡◌, ◌∙◌}
use mathlib.Core.Bool.{true}
use Prim.Native.Nat.{◌≤◌}
use native.Mathlib.Omega.{arith}
use Rattle.format.specs.Trie.{bit}
use Rattle.nodes.specs.Words.{node_in}
use Rattle.paged_lookup.specs.Way.{NodeOn}
use Rattle.paged_lookup.proofs.Sides.{still_on, place_on}
use Rattle.paged_lookup.proofs.Children.{steps_counted, steps_within}
use Rattle.paged_lookup.proofs.page.step.Goals.{Then-inner}
use Rattle.paged_lookup.proofs.page.step.Goals as goal

-- the key's bit is on, and so were all before it
all_on : (c : Then-inner) → (c.args.from.on ≡ true) × (1 ≤ bit c.args.side (node_in c.args.words.now.word c.args.from.place))
all_on c = let a = c.args in still_on a.from.on (bit a.side (node_in a.words.now.word a.from.place)) c.is_on-on.ensures c.if-on.true

-- so there is a node, on one of the first three levels
node : (c : Then-inner) → let a = c.args in NodeOn a.words.now.word a.words.now.before a.roots a.end a.from.place
node c = c.requires.2 c.if-inner.true (all_on c).0

pub is_on-on-requires : goal.is_on-on-requires
is_on-on-requires c = c.requires.1

pub child_place-requires : goal.child_place-requires
child_place-requires c = (node (goal.at.child_place-requires c).Then-inner, c.requires.4)

pub returns-then-inner : goal.returns-then-inner
returns-then-inner c =
    let a = c.args in
    let w = (goal.at.returns-then-inner c).Then-inner in
    let o = all_on w in
    let small = c.requires.4 in (
      c.child_place.ensures ∙ steps_counted (node w) a.side small o.1 ∙ place_on a.words.now.word a.words.now.before a.roots a.from.place a.side o.0,
      omega (arith, c.child_place.ensures, steps_within (node w) a.side small o.1),
      c.is_on-on.ensures,
    )

pub left_end-requires : goal.left_end-requires
left_end-requires c = let p = c.requires in (p.0, p.1, p.3, p.4)

pub returns : goal.returns
returns c = (c.left_end.ensures.0, c.left_end.ensures.1, c.is_on-on.ensures)
