-- The crossing from a band to the band below it.
-- Assumes nothing.
use Rattle.format.specs.declared.Root.{Root}
use Rattle.format.specs.declared.OutLink.{OutLink}

-- out-link n of a band leads to root n of the band below, both counted from 0
abbrev pub crossed : OutLink → Root
crossed link = record { 0 = link.0 }
