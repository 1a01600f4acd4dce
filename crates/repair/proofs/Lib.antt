-- Laws of the repair. Each file's head says its subject; a file uses only those above it.

-- sums over pages
pub mod Sums
-- which bytes are kept, and images that agree in them
pub mod Agreeing
-- numbers put into bytes
pub mod Puts
-- the restored image read back
pub mod Reading
-- a page's roots from its pairs
pub mod RootsHeld
-- images that agree in every number, and an accepted one that agrees in the kept bytes
pub mod Numbered
pub mod Given
-- the statement of specs/Laws
pub mod RepairLaws
-- what the kept bytes are where there is such an image, and that there is one where they are so
pub mod KeptSound
pub mod Restoring
-- a page's last node, and the search for its roots
pub mod LastNode
pub mod Seeking
-- a page and a band judged
pub mod Judging
-- the header and the whole image judged
pub mod HeaderVerdict
pub mod Verdict
-- the output filled
pub mod Filling
