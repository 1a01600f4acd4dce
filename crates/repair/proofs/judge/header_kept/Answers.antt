-- `repair::judge::header_kept` meets its contract: at each return the questions before got a yes. Assumes nothing.
use mathlib.Core.Path.{sym}
use Rattle.repair.proofs.HeaderVerdict.{kept_last, kept-lift, kept-mark, kept_short, kept_version, kept_zeros}
use Rattle.repair.proofs.judge.header_kept.Goals as goal

pub returns-then-image-lt64 : goal.returns-then-image-lt64
returns-then-image-lt64 c = kept_short _ c.if-image-lt64.true

pub returns-then-not-mark_right : goal.returns-then-not-mark_right
returns-then-not-mark_right c = kept-mark _ c.if-image-lt64.false (sym c.if-not-mark_right.ensures)

pub returns-then-not-version_known : goal.returns-then-not-version_known
returns-then-not-version_known c = kept_version _ c.if-image-lt64.false (sym c.if-not-mark_right.ensures) (sym c.if-not-version_known.ensures)

pub returns-then-not-zeros_right : goal.returns-then-not-zeros_right
returns-then-not-zeros_right c = kept_zeros _ c.if-image-lt64.false (sym c.if-not-mark_right.ensures) (sym c.if-not-version_known.ensures) (sym c.if-not-zeros_right.ensures)

pub returns-then-not-lift_right : goal.returns-then-not-lift_right
returns-then-not-lift_right c =
    kept-lift _ c.if-image-lt64.false (sym c.if-not-mark_right.ensures) (sym c.if-not-version_known.ensures) (sym c.if-not-zeros_right.ensures) (sym c.if-not-lift_right.ensures)

pub returns : goal.returns
returns c =
    kept_last _ c.if-image-lt64.false (sym c.if-not-mark_right.ensures) (sym c.if-not-version_known.ensures) (sym c.if-not-zeros_right.ensures) (sym c.if-not-lift_right.ensures) _ c.total_pages.ensures.0
