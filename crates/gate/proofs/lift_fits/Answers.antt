-- `gate::lift_fits` meets its contract. Assumes nothing.
use Rattle.gate.proofs.Scans.{fits_none, fits_own}
use Rattle.gate.proofs.lift_fits.Goals as goal

pub returns-then-named-eq0 : goal.returns-then-named-eq0
returns-then-named-eq0 c = fits_none _ _ _ c.lift-named.ensures.0 c.if-named-eq0.true

pub returns : goal.returns
returns c = fits_own _ _ _ c.lift-named.ensures.0 c.if-named-eq0.false
