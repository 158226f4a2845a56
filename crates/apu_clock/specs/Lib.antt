-- The clock call, in reading order. Assumes nothing.
pub mod Sequencer  -- what follows the sample counter in a working clock
pub mod Clocking  -- the clock call
pub mod Answers  -- document 01's numbers for each answer
pub mod Uses  -- any row of calls
pub mod Demand3  -- that clocks are conserved, as one statement
