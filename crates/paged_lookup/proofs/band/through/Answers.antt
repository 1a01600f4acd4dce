-- `paged_lookup::band::through` meets its contract. Assumes nothing.
use Rattle.paged_lookup.proofs.band.through.Goals as goal

pub through_accepted-requires : goal.through_accepted-requires
through_accepted-requires c = let p = c.requires in (p.0 c.if-accepted.true, p.1, p.2)
