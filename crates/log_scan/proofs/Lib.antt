-- The laws of the scan and its answers. Assumes nothing.
pub mod Bounds  -- the sums are small
pub mod Counting  -- joining what records have
pub mod Refusals  -- which refusal, and its number
pub mod Done  -- what a log that is played has
pub mod Joining  -- two logs in one
