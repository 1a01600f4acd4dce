-- `paged_lookup::lookup_accepted` meets its contract. Assumes nothing.
use Rattle.format.proofs.Accepted.{facts}
use Rattle.paged_lookup.proofs.Agreement.{header-yes}
use Rattle.paged_lookup.proofs.Walking.{lookup-done}
use Rattle.paged_lookup.proofs.lookup_accepted.Goals as goal

-- 1 to 7 get a yes
pub walk-requires : goal.walk-requires
walk-requires c = (header-yes _ (facts _ c.requires).all_yes, λ _. c.requires)

pub returns : goal.returns
returns c = lookup-done _ _ _ (header-yes _ (facts _ c.requires).all_yes) c.weave.ensures _ c.walk.ensures
