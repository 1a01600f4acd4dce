-- Laws for the gate's scan.

-- the answer and the records, from lookup's answer and what the questions say
pub mod Scans
