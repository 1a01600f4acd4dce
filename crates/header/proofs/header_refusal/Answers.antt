-- `header::header_refusal` meets its contract. Assumes nothing.
use Rattle.header.proofs.First.{no_1, no_2, no_3, no_4, no_5, no_35, no_6, no_7, yes_all}
use Rattle.header.proofs.header_refusal.Goals as goal

pub returns-then-image-lt64 : goal.returns-then-image-lt64
returns-then-image-lt64 c = no_1 _ c.if-image-lt64.true

pub returns-then-not-mark_right : goal.returns-then-not-mark_right
returns-then-not-mark_right c = no_2 _ c.if-image-lt64.false c.if-not-mark_right.ensures

pub returns-then-not-version_known : goal.returns-then-not-version_known
returns-then-not-version_known c = no_3 _ c.if-image-lt64.false c.if-not-mark_right.ensures c.if-not-version_known.ensures

pub returns-then-key_count-gt4096 : goal.returns-then-key_count-gt4096
returns-then-key_count-gt4096 c =
    no_4 _ c.if-image-lt64.false c.if-not-mark_right.ensures c.if-not-version_known.ensures _ c.key_count.ensures.0 c.if-key_count-gt4096.true

pub returns-then-not-zeros_right : goal.returns-then-not-zeros_right
returns-then-not-zeros_right c =
    no_5 _ c.if-image-lt64.false c.if-not-mark_right.ensures c.if-not-version_known.ensures _ c.key_count.ensures.0 c.if-key_count-gt4096.false c.if-not-zeros_right.ensures

pub returns-then-not-lift_right : goal.returns-then-not-lift_right
returns-then-not-lift_right c =
    no_35 _ c.if-image-lt64.false c.if-not-mark_right.ensures c.if-not-version_known.ensures _ c.key_count.ensures.0 c.if-key_count-gt4096.false c.if-not-zeros_right.ensures c.if-not-lift_right.ensures

pub returns-then-image-total_pages : goal.returns-then-image-total_pages
returns-then-image-total_pages c =
    no_6 _ c.if-image-lt64.false c.if-not-mark_right.ensures c.if-not-version_known.ensures _ c.key_count.ensures.0 c.if-key_count-gt4096.false c.if-not-zeros_right.ensures c.if-not-lift_right.ensures
    _ c.total_pages.ensures.0 c.if-image-total_pages.true

pub returns-then-not-counts_fit : goal.returns-then-not-counts_fit
returns-then-not-counts_fit c =
    no_7 _ c.if-image-lt64.false c.if-not-mark_right.ensures c.if-not-version_known.ensures _ c.key_count.ensures.0 c.if-key_count-gt4096.false c.if-not-zeros_right.ensures c.if-not-lift_right.ensures
    _ c.total_pages.ensures.0 c.if-image-total_pages.false c.if-not-counts_fit.ensures

pub returns : goal.returns
returns c =
    yes_all _ c.if-image-lt64.false c.if-not-mark_right.ensures c.if-not-version_known.ensures _ c.key_count.ensures.0 c.if-key_count-gt4096.false c.if-not-zeros_right.ensures c.if-not-lift_right.ensures
    _ c.total_pages.ensures.0 c.if-image-total_pages.false c.if-not-counts_fit.ensures
