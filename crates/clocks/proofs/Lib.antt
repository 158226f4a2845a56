-- The laws of the clocks. Assumes nothing.
pub mod Working  -- one working clock, in whole units
pub mod Conserved  -- demand 3 over any row of calls
pub mod Rates  -- for any rate
pub mod Metering  -- the meter and the ranges
pub mod Totals  -- frames of half-clocks, some at a time
pub mod Distances  -- how far the next frame is
pub mod Chunks  -- working clocks from frame to frame
pub mod Halves  -- working clocks of many calls
pub mod Seen  -- how a unit's own calls come under demand 3
pub mod Positions  -- nine values of the sequencer's position
