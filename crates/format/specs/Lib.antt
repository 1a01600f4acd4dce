-- The format and the jobs as definitions, in the order to read them in: what an image is, what each job asks and answers, and then what is promised of them.

-- lists, beside the library's
pub mod Seq
-- holder and slot woven into a key
pub mod Key
-- the levels and nodes of a list of keys
pub mod Trie
-- from an out-link to the root that it leads to
pub mod Band
-- subtries, pages and their bytes
pub mod Page
-- the first 64 bytes
pub mod Header
-- what an image says, read from its bytes
pub mod Image
-- the numbered questions, and 1 to 13 with 35
pub mod Question
-- a refusal's number, and the answer of a job that may refuse
pub mod Refusal
-- the image of a list, and the writer's questions and answer
pub mod Writer
-- check, lift, lookup, count, listing and finding by rank
pub mod Answer
-- the gate's scan
pub mod Scan
-- scans one after the other, and the statement of what the records then tell
pub mod History
-- holders: what their records tell, and the statement of when a scan opens
pub mod Holders
-- the statement that a card which is refused with 26 opens once the lockout has run, and no earlier
pub mod Patience
-- what the listing program prints
pub mod Text
-- the statement that there is one image per list, version and lift
pub mod Exact
-- the statement that the number which an absent admission gets is its rank once it is listed
pub mod Insertion
-- the statement that T and B are counts over the trie's pages
pub mod Counters
-- from a node to its child in the order of source document 000, and the statement that it is paper 01's child
pub mod Child
-- the statement of how long an image can be
pub mod Bounds
-- the statement of what one flipped bit does
pub mod Flip
-- the sample plates
pub mod Plates
-- for crates below the jobs: where a page's nodes stand, and how the keys of a prefix lie to a rectangle
pub mod Place
pub mod Cell
