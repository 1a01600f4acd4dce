-- `edit::edit_at` meets its contract. Assumes nothing.
use mathlib.Core.Path.{ap, ◌∙◌}
use Rattle.std.specs.Prelude.{is_some}
use Rattle.std.proofs.lemmas.Result.{err_from_is_err_and}
use Rattle.format.proofs.Accepted.{facts}
use Rattle.edit.proofs.Job.{changing, key_done, key_refused, key_short, record_room}
use Rattle.edit.proofs.edit_at.Goals as goal

pub key_count-keys-requires : goal.key_count-keys-requires
key_count-keys-requires c = (facts _ c.requires.accepted).questions.header.long

pub returns-in_err-change_refusal : goal.returns-in_err-change_refusal
returns-in_err-change_refusal c =
    let p = err_from_is_err_and c.from_residual.result c.from_residual.ensures.1 in
    let asked = rw (c.is_some-listed.ensures ∙ ap is_some c.rank.ensures) at c.in_err-change_refusal.ensures in
    rw (p.1, p.2) (key_refused _ _ _ _ _ _ _ _ c.requires _ c.key_count-keys.ensures.0 _ asked)

pub write_changed-requires : goal.write_changed-requires
write_changed-requires c =
    let passed = rw (c.is_some-listed.ensures ∙ ap is_some c.rank.ensures) at c.in_ok-change_refusal.ensures in
    rw c.smaller-place.ensures (changing _ _ c.args.records.now _ c.args.«new_image».now c.args.«new_records».now _ _ c.requires _ c.key_count-keys.ensures.0 passed)

pub returns-in_err-length : goal.returns-in_err-length
returns-in_err-length c =
    let p = err_from_is_err_and c.from_residual-in_err-length.result c.from_residual-in_err-length.ensures.1 in
    let passed = rw (c.is_some-listed.ensures ∙ ap is_some c.rank.ensures) at c.in_ok-change_refusal.ensures in
    rw (p.1, p.2) (key_short _ _ _ _ _ _ _ _ c.requires _ c.key_count-keys.ensures.0 passed _ _ c.in_err-length.ensures)

pub move_records-requires : goal.move_records-requires
move_records-requires c =
    let passed = rw (c.is_some-listed.ensures ∙ ap is_some c.rank.ensures) at c.in_ok-change_refusal.ensures in
    rw c.smaller-place.ensures (record_room _ _ _ c.args.key c.args.«new_image».now _ _ _ c.requires _ c.key_count-keys.ensures.0 passed)

pub returns : goal.returns
returns c =
    let passed = rw (c.is_some-listed.ensures ∙ ap is_some c.rank.ensures) at c.in_ok-change_refusal.ensures in
    key_done _ _ _ _ _ _ _ _ c.requires _ c.key_count-keys.ensures.0 passed _ _ c.in_ok-length.ensures _ (rw c.smaller-place.ensures at c.move_records.ensures)
