-- What the contracts and laws of the clocks cite, in reading order. Demand 3, that clocks are conserved, is what document 01 calls rule 3. Assumes nothing.
pub mod Counter  -- one working clock
pub mod Calls  -- any row of calls, and demand 3
pub mod Rows  -- a row of calls on a unit, and how its clocks see them
pub mod Rates  -- other sample rates
pub mod Metered  -- frames by whole numbers
pub mod Position  -- the sequencer's position
pub mod Distance  -- the units in a stored counter; and, for speed and its proofs alone, how far the next frame is
