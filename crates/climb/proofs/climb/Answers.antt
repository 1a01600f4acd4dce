-- `climb::climb` meets its contract. Assumes nothing.
use mathlib.Core.Path.{◌≡◌, refl, sym, ap, ◌∙◌}
use Prim.Native.Nat.{◌+◌, ◌*◌, ◌%◌, ◌^◌}
use native.Mathlib.Nat.{mod-eq_of_lt, pow-suc}
use native.Mathlib.Numerals.{add-one}
use native.Mathlib.Omega.{arith}
use Rattle.pages.proofs.Pages.{t_small}
use Rattle.pages.proofs.PageWords.{page_small}
use Rattle.pages.proofs.Heads.{opened_read, head_fits, nodes_asked, nodes_are}
use Rattle.climb.proofs.Climbing.{climb_start, climb_number, climb_bits, climb_next, climb_end, climb_place, climb_fits}
use Rattle.climb.proofs.climb.Goals as goal

pub overflow_mul-head : goal.overflow_mul-head
overflow_mul-head c = let p = c.requires in omega (arith, head_fits p.0 p.1)

pub gather-words-requires : goal.gather-words-requires
gather-words-requires c = let p = c.requires in head_fits p.0 p.1

pub node_count-nodes-requires : goal.node_count-nodes-requires
node_count-nodes-requires c = let p = c.requires in nodes_asked p.0 p.1 c.gather-words.ensures

pub overflow_add-place : goal.overflow_add-place
overflow_add-place c =
    let p = c.requires in
    record { fits = omega (arith, p.2, page_small p.0 (opened_read p.1), nodes_are p.0 p.1 c.gather-words.ensures c.node_count-nodes.ensures) }

pub loop-level-init : goal.loop-level-init
loop-level-init c =
    let p = c.requires in
    let g = c.gather-words.ensures in
    let n = nodes_are p.0 p.1 g c.node_count-nodes.ensures in
    (n, climb_start p.0 (opened_read p.1) g _ _ n p.3 (omega (arith, p.4, p.1.links)))

pub overflow_sub-place-in-loop-level : goal.overflow_sub-place-in-loop-level
overflow_sub-place-in-loop-level c = climb_number c.loop-level.invariant.1 c.loop-level-test.true

pub on_bit-bit-requires : goal.on_bit-bit-requires
on_bit-bit-requires c = climb_bits c.loop-level.invariant.1 c.loop-level-test.true

pub overflow_add-bits : goal.overflow_add-bits
overflow_add-bits c =
    let fits = climb_fits c.loop-level.invariant.1 c.loop-level-test.true _ c.on_bit-bit.ensures.1.small in
    let same = mod-eq_of_lt {n = c.on_bit-bit.result % 2 * 2 ^ c.loop-level.level} {m = 4294967296} (omega (arith, fits.0)) in
    record { fits = omega (arith, fits.1) }

pub loop-level-preserved : goal.loop-level-preserved
loop-level-preserved c =
    let i = c.loop-level.invariant in
    let fits = climb_fits i.1 c.loop-level-test.true _ c.on_bit-bit.ensures.1.small in
    let same : c.on_bit-bit.result % 2 * 2 ^ c.loop-level.level % 4294967296 ≡ c.on_bit-bit.result % 2 * 2 ^ c.loop-level.level = mod-eq_of_lt (omega (arith, fits.0)) in
    let twice : 2 ^ c.loop-level.level * 2 ≡ 2 ^ (c.loop-level.level + 1) = sym (ap (2 ^◌) (add-one c.loop-level.level) ∙ pow-suc 2 c.loop-level.level) in
    (i.0, rw (same, ← twice) (climb_next i.1 c.loop-level-test.true c.on_bit-bit.ensures.0 c.on_bit-bit.ensures.1))

pub overflow_add-result : goal.overflow_add-result
overflow_add-result c =
    let i = c.loop-level.invariant in
    let head = c.args.head in
    record {
      fits = omega (
        arith,
        c.requires.1.t,
        t_small c.requires.0 head.band head.index,
        climb_place i.1 c.loop-level-test.false _ c.requires.3 i.0 refl,
      );
    }

pub returns : goal.returns
returns c =
    let i = c.loop-level.invariant in
    climb_end i.1 c.loop-level-test.false _ c.requires.3 i.0 refl
