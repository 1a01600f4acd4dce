-- Laws for what the test programs share.

-- an image of a list that the writer gave
mod Images
