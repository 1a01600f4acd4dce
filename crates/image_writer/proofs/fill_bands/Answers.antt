-- `image_writer::fill_bands` meets its contract. The invariant is `Writing`. Assumes nothing.
use mathlib.Core.Path.{◌≡◌, sym}
use native.Mathlib.Omega.{arith}
use borrow.Author.Rules.{rules}
use lib.ListN.{length}
use lib.Seq.{take_all}
use Rattle.image_writer.proofs.Numbers.{last_left}
use Rattle.image_writer.proofs.Writing.{writing_start, count_within, band_room, writing_next, writing_end}
use Rattle.image_writer.proofs.fill_bands.Goals as goal

pub loop-band-init : goal.loop-band-init
loop-band-init c =
    let all : c.into_iter-band-iterator.result.iter.rest.now ≡ c.args.plan.now.bands = cc (c.into_iter-band-iterator.ensures.into_iter_gives, c.rev-band-items.ensures.source, c.iter.ensures.rest) in
    let eight : length c.args.plan.now.bands ≡ 8 = search rules in
    record {
      left = rw all (sym (take_all _ _ (omega arith)));
      writing = rw (all, eight) (writing_start _ _ _ c.requires);
    }

pub overflow_sub-first : goal.overflow_sub-first
overflow_sub-first c =
    let inv = c.loop-band.invariant in
    let last = last_left _ _ _ _ inv.left c.in-Some.ensures.steps in
    omega (arith, c.from-first.ensures, last.pages_are, count_within _ _ _ _ _ _ _ _ _ inv.writing last.some)

pub fill_band-n-requires : goal.fill_band-n-requires
fill_band-n-requires c =
    let inv = c.loop-band.invariant in
    let last = last_left _ _ _ _ inv.left c.in-Some.ensures.steps in
    rw (c.from-first.ensures, ← last.pages_are) (band_room _ _ _ _ _ _ _ _ _ inv.writing last.some)

pub loop-band-preserved : goal.loop-band-preserved
loop-band-preserved c =
    let inv = c.loop-band.invariant in
    let last = last_left _ _ _ _ inv.left c.in-Some.ensures.steps in
    record {
      left = last.left;
      writing = rw (c.from-first.ensures, ← last.pages_are, ← last.one_less) (writing_next _ _ _ _ _ _ _ _ _ inv.writing last.some _ _ _ (rw (c.from-first.ensures, ← last.pages_are) at c.fill_band-n.ensures));
    }

pub returns : goal.returns
returns c = writing_end _ _ _ _ _ _ _ _ _ c.loop-band.invariant.writing (omega (arith, c.in-None.ensures.steps.0))
