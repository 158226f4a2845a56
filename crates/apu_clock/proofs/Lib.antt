-- The laws of the clock call. Assumes nothing.
pub mod Ranges  -- the ranges of numbers
pub mod Calling  -- the ways of a clock call
pub mod Untouched  -- what no channel or sequencer clock touches
pub mod Idling  -- a step of the sequencer that moves its position alone
pub mod Floats  -- the ranges of floats
pub mod Given  -- what is handed back is in its ranges
pub mod Demand3  -- frames and remainder by the formula, over any calls
pub mod Rows  -- the ranges, over any calls
