-- `report::put_listing` meets its contract. Assumes nothing.
use mathlib.Core.List.{◌++◌}
use Prim.Native.Nat.{◌*◌}
use lib.ListN.{length}
use Rattle.format.specs.Text.{admissions_word}
use Rattle.report.specs.Row.{field_of}
use Rattle.report.proofs.Puts.{put_then}
use Rattle.report.proofs.Reports.{put_word}
use Rattle.report.proofs.put_listing.Goals as goal

pub returns : goal.returns
unfolding admissions_word
returns c =
    let r = c.put_rows in
    let f = c.put_field-at in
    let w = c.put_admissions in
    put_then c.args.out.now 0 (admissions_word ++ field_of (length c.args.keys.now) 10) 17 f.new.out f.result _ (18 * length c.args.keys.now) _ _
    (put_then c.args.out.now 0 admissions_word 11 w.new.out 11 _ 6 _ _ (put_word c.args.out.now w.new.out admissions_word w.ensures) f.ensures) r.ensures
