-- The sound unit, in reading order. Assumes nothing.
pub mod Held  -- the ranges of a unit
pub mod Start  -- the two constructors
pub mod Registers  -- reads, writes and power
pub mod Answers  -- document 01's numbers for each answer
pub mod With  -- the unit with one thing written anew, no rules
