-- `capi::lpt_key` meets its contract. Assumes nothing.
use mathlib.Core.Path.{ap, ◌∙◌}
use native.Mathlib.Omega.{arith}
use lib.IntN.{ℤ, pos}
use Rattle.capi.proofs.Signed.{pos-is}
use Rattle.capi.proofs.lpt_key.Goals as goal

pub returns : goal.returns
returns c = pos-is c.weave.result (omega arith) ∙ ap {B = ℤ} pos c.weave.ensures
