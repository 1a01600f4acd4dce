-- `paged_lookup::page::left_end` meets its contract. Assumes nothing.
use mathlib.Core.Path.{◌≡◌, ap, ◌∙◌}
use Prim.Native.Nat.{ℕ, ◌+◌, ◌*◌, ◌/◌, ◌≤◌}
use native.Mathlib.Omega.{arith}
use Rattle.pages.specs.Page.{child_in}
use Rattle.paged_lookup.proofs.Sides.{counted_small, child_is, place_on, place_off}
use Rattle.paged_lookup.proofs.page.left_end.Goals as goal

pub node_at-requires : goal.node_at-requires
node_at-requires c = c.requires.1 c.if-from.true

-- the node's first bit, where it counts
small : (side node : ℕ) → side ≤ 1 → node / 2 ≤ 1 → side * (node / 2) ≤ 1
small side node = counted_small side (node / 2)

pub overflow_mul-result : goal.overflow_mul-result
overflow_mul-result c = omega (arith, small c.args.side c.node_at.result c.requires.3 (omega (arith, c.node_at.ensures.1)))

pub overflow_add-result : goal.overflow_add-result
overflow_add-result c =
    omega (arith, small c.args.side c.node_at.result c.requires.3 (omega (arith, c.node_at.ensures.1)), c.on_bits_before.ensures.1, c.requires.2)

pub returns-then-from : goal.returns-then-from
returns-then-from c =
    let a = c.args in
    let e = child_is a.words.now.word a.words.now.before a.roots a.from.place a.side c.requires.3 in
    let h = ap (λ n. a.side * (n / 2)) c.node_at.ensures.0 in
    let is : a.roots + c.on_bits_before.result + a.side * (c.node_at.result / 2) ≡ child_in a.words.now.word a.words.now.before a.roots a.from.place a.side = omega (arith, c.on_bits_before.ensures.0) in
    (is ∙ place_on a.words.now.word a.words.now.before a.roots a.from.place a.side c.if-from.true, omega (arith, small c.args.side c.node_at.result c.requires.3 (omega (arith, c.node_at.ensures.1)), c.on_bits_before.ensures.1, c.requires.2))

pub returns : goal.returns
returns c =
    let a = c.args in
    let e = place_off a.words.now.word a.words.now.before a.roots a.from.place a.side c.if-from.false in
    (omega (arith, c.on_bits_before.ensures.0), omega (arith, c.on_bits_before.ensures.1, c.requires.2))
