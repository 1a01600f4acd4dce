-- `image_writer::fill_header` meets its contract. The invariant is `Headed`, with two numbers in for each band.
use Prim.Native.Nat.{◌*◌}
use Rattle.image_writer.specs.Image.{numbers_of}
use Rattle.image_writer.proofs.Header.{Headed}
use Rattle.image_writer.proofs.fill_header.Given as goal

abbrev pub invariant-loop-b : goal.invariant-loop-b
invariant-loop-b l = Headed l.initial.out (numbers_of l.bands) l.out (2 * l.b)
