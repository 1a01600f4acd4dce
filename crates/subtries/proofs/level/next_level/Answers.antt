-- `subtries::level::next_level` meets its contract. Assumes nothing.
use mathlib.Core.Path.{◌≡◌, sym, subst, ◌∙◌}
use Prim.Native.Nat.{◌+◌, ◌-◌, ◌/◌, ◌%◌, ◌^◌, ◌<◌}
use native.Mathlib.Omega.{arith}
use Rattle.reader.specs.Page.{NodesIn}
use Rattle.reader.proofs.Nodes.{nodes_less, nodes_top, nodes_next}
use Rattle.subtries.proofs.Reading.{Reading, bit_times, reading_start, reading_small, reading_next, reading_place, reading_room, reading_end}
use Rattle.subtries.proofs.level.next_level.Goals as goal

pub loop-passed-init : goal.loop-passed-init
loop-passed-init c =
    let p = c.requires in
    let all : c.args.width ≡ c.args.width - 0 = omega arith in
    (subst (Reading _ _ _ _ _ _) all (reading_start p.0 p.3 p.4), nodes_less c.read_nodes-nodes.ensures (omega arith))

pub bit-on-requires : goal.bit-on-requires
bit-on-requires c = let s = c.loop-passed.invariant.0 in omega (arith, s.to, s.wide)

pub overflow_mul-bits : goal.overflow_mul-bits
overflow_mul-bits c = let more : 0 < c.args.width - c.loop-passed.passed = omega arith in omega (arith, reading_small c.loop-passed.invariant.0 more)

-- on * node
pub overflow_mul-bits-in-loop-passed : goal.overflow_mul-bits-in-loop-passed
overflow_mul-bits-in-loop-passed c = omega (arith, bit_times c.bit-on.result c.top.result c.bit-on.ensures.1 c.top.ensures.1)

pub overflow_add-bits : goal.overflow_add-bits
overflow_add-bits c =
    let more : 0 < c.args.width - c.loop-passed.passed = omega arith in
    omega (arith, reading_small c.loop-passed.invariant.0 more, bit_times c.bit-on.result c.top.result c.bit-on.ensures.1 c.top.ensures.1)

pub overflow_mul-nodes : goal.overflow_mul-nodes
overflow_mul-nodes c = omega (arith, c.bit-on.ensures.1)

pub overflow_cast-nodes : goal.overflow_cast-nodes
overflow_cast-nodes c = omega (arith, c.bit-on.ensures.1)

pub overflow_shl-nodes : goal.overflow_shl-nodes
overflow_shl-nodes c = omega (arith, c.bit-on.ensures.1)

pub overflow_add-at : goal.overflow_add-at
overflow_add-at c =
    let more : 0 < c.args.width - c.loop-passed.passed = omega arith in
    omega (arith, reading_place c.loop-passed.invariant.0 more, c.bit-on.ensures.1)

pub loop-passed-preserved : goal.loop-passed-preserved
loop-passed-preserved c =
    let s = c.loop-passed.invariant in
    let more : 0 < c.args.width - c.loop-passed.passed = omega arith in
    let less : c.args.width - c.loop-passed.passed - 1 ≡ c.args.width - (c.loop-passed.passed + 1) = omega arith in
    let same : c.args.width - c.loop-passed.passed - 1 ≡ c.args.width - 1 - c.loop-passed.passed = omega arith in
    let b : c.bit-on.result ≡ c.args.set / 2 ^ (c.args.width - c.loop-passed.passed - 1) % 2 = rw same c.bit-on.ensures.0 in
    let t = c.top.ensures in (
      subst (Reading _ _ _ _ _ _) less (reading_next s.0 more _ _ b t.1 (λ on. t.0 ∙ nodes_top s.1 more (reading_room s.0 more (sym b ∙ on)))),
      subst (NodesIn _ _ _) less (nodes_next s.1 (omega (arith, s.0.to, s.0.wide)) _ c.bit-on.ensures.1),
    )

pub returns : goal.returns
returns c = reading_end c.loop-passed.invariant.0 (omega arith)
