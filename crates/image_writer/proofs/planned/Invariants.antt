-- `image_writer::planned` meets its contract. The invariant is `Planning`.
use Rattle.image_writer.specs.Image.{numbers_of}
use Rattle.image_writer.proofs.Planning.{Planning}
use Rattle.image_writer.proofs.planned.Given as goal

abbrev pub invariant-loop-b : goal.invariant-loop-b
invariant-loop-b l = Planning l.initial.keys l.keys (numbers_of l.bands) l.pages l.n l.b
