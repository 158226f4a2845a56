-- The marked examples. Assumes nothing.
pub mod Marked  -- one list, and what it states
