-- Playing a log, in reading order. Assumes nothing.
pub mod Playing  -- what each record does to the unit, and the bytes that it makes
pub mod Frames  -- the frames that they make
pub mod Logs  -- a whole log: its answer and its output
pub mod Cuts  -- clock records cut in two, and those of either version that do the same
-- ---- for speed and its proofs alone: no rule is said in these words, and no promise to who calls the unit or plays a log
pub mod Bodies  -- the record at a place
pub mod Coming  -- what is still to come of a log, for who reckons ahead
