-- What an access log asks for, in reading order. Assumes nothing.
pub mod Sums  -- what records ask for, summed
pub mod Scan  -- what the scan finds, joined record by record
pub mod Answers  -- refusals 3 to 6, and document 01's numbers for each answer
