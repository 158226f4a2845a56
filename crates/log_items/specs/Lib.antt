-- The output of the log player. Assumes nothing.
pub mod Items  -- the bytes of each item
