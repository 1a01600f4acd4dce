-- The image writer: its two passes.

-- the image's parts as the writer fills them in
pub mod Image
-- what the first pass answers, and what it leaves of the keys
pub mod Planning
