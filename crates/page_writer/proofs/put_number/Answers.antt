-- `page_writer::put_number` meets its contract. Assumes nothing.
use mathlib.Core.Path.{◌≡◌, refl, ◌∙◌}
use Prim.Native.Nat.{◌+◌, ◌-◌}
use native.Mathlib.Omega.{arith}
use lib.Seq.{drop-drop}
use Rattle.page_writer.proofs.Bytes.{two_high_first}
use Rattle.page_writer.proofs.put_number.Goals as goal

pub returns : goal.returns
returns c =
    let bytes = c.copy_from_slice.ensures.after ∙ c.to_be_bytes.ensures ∙ two_high_first c.args.x c.ranges.x.fits in
    let n : c.args.at + 2 - c.args.at ≡ 2 = omega arith in
    rw (bytes, n, drop-drop) refl
