-- The laws of the sound unit. Assumes nothing.
pub mod Offsets  -- which group an offset is in
pub mod Ranges  -- the ranges of numbers
pub mod Untouched  -- what no write touches
pub mod Floats  -- the ranges of floats
pub mod Given  -- what is handed back is in its ranges
