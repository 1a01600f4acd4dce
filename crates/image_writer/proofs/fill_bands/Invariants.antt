-- `image_writer::fill_bands` meets its contract. The invariant is `Writing`, where the iterator has the first bands left.
use mathlib.Core.Path.{◌≡◌}
use lib.ListN.{length, take}
use Rattle.image_writer.specs.Image.{numbers_of}
use Rattle.image_writer.proofs.Writing.{Writing}
use Rattle.image_writer.proofs.fill_bands.Given as goal

abbrev pub invariant-loop-band : goal.invariant-loop-band
invariant-loop-band l =
    let rest = l.band-iterator.iter.rest.now in
    record {
      left : rest ≡ take (length rest) l.plan.bands;
      writing : Writing l.initial.keys l.initial.out (numbers_of l.plan.bands) l.initial.first l.keys l.out l.first l.n (length rest);
    }
