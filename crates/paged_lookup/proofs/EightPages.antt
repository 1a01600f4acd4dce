-- The promises of the eight-page lookup. Assumes nothing.
use Rattle.paged_lookup.specs.EightPages as stated
use Rattle.paged_lookup.proofs.Agreement.{paged_agrees}
use Rattle.paged_lookup.proofs.Reading.{reads_little}

pub eight_pages : stated.EightPages
eight_pages = record { agrees = paged_agrees; reads = reads_little }
