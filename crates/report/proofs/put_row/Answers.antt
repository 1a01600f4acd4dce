-- `report::put_row` meets its contract: three fields. Assumes nothing.
use mathlib.Core.Path.{◌∙◌}
use Rattle.report.proofs.Puts.{put_row}
use Rattle.report.proofs.put_row.Goals as goal

pub returns : goal.returns
returns c =
    put_row c.args.out.now c.put_field-slot_at.new.out c.put_field-rank_at.new.out c.put_field.new.out
    c.args.at c.put_field-slot_at.result c.put_field-rank_at.result c.put_field.result c.args.key c.args.rank
    c.from.result c.from-2.result
    (c.from.ensures ∙ c.unweave-admission.ensures.0) (c.from-2.ensures ∙ c.unweave-admission.ensures.1)
    c.put_field-slot_at.ensures c.put_field-rank_at.ensures c.put_field.ensures
