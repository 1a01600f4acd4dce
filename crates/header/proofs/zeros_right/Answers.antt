-- `header::zeros_right` meets its contract. Assumes nothing.
use Rattle.header.proofs.Asked.{zeros_no, zeros_2, zeros_lift, zeros_none}
use Rattle.header.proofs.zeros_right.Goals as goal

pub returns-then-image-ne0 : goal.returns-then-image-ne0
returns-then-image-ne0 c = zeros_no _ c.if-image-ne0.true

pub returns-then-version-eq2 : goal.returns-then-version-eq2
returns-then-version-eq2 c = zeros_2 _ c.if-image-ne0.false _ c.version.ensures.0 c.if-version-eq2.true _ c.all_zero.ensures

pub returns-then-number-ne0 : goal.returns-then-number-ne0
returns-then-number-ne0 c =
    zeros_lift _ c.if-image-ne0.false _ c.version.ensures.0 c.if-version-eq2.false _ c.number.ensures.0 c.if-number-ne0.true

pub returns : goal.returns
returns c =
    zeros_none _ c.if-image-ne0.false _ c.version.ensures.0 c.if-version-eq2.false _ c.number.ensures.0 c.if-number-ne0.false _ c.all_zero-2.ensures
