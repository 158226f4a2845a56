-- The laws of the program. Assumes nothing.
pub mod Showing  -- its loops
