-- `paged_lookup::lookup` meets its contract. Assumes nothing.
use mathlib.Core.Path.{◌≡◌, sym}
use Prim.Native.Nat.{ℕ}
use native.Mathlib.Omega.{arith}
use Rattle.std.proofs.lemmas.Result.{err_from_is_err_and}
use Rattle.paged_lookup.proofs.Walking.{lookup_refused, lookup-done}
use Rattle.paged_lookup.proofs.lookup.Goals as goal

pub returns-in_err-header_refusal : goal.returns-in_err-header_refusal
returns-in_err-header_refusal c =
    let p = err_from_is_err_and c.from_residual.result c.from_residual.ensures.1 in
    rw (p.1, p.2) (lookup_refused _ _ _ _ c.in_err-header_refusal.ensures)

-- 1 to 7 get a yes
pub walk-requires : goal.walk-requires
walk-requires c = (sym c.in_ok-header_refusal.ensures, λ e. absurd (let z : ◌≡◌ {A = ℕ} 0 1 = cc in omega arith))

pub returns : goal.returns
returns c = lookup-done _ _ _ (sym c.in_ok-header_refusal.ensures) c.weave.ensures _ c.walk.ensures
