-- The laws of records. Assumes nothing.
pub mod Judged  -- what is known of a record
pub mod Cutting  -- what stands at a place
pub mod Framing  -- walking a log
pub mod Joining  -- two logs in one
