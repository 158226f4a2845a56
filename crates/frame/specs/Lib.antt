-- The rules of a frame's numbers, in reading order. Assumes nothing.
pub mod Converter  -- one channel's step
pub mod Mixing  -- the ten numbers
pub mod Buffers  -- where they go
pub mod Lent  -- the same as the code lends them
pub mod Held  -- the ranges of the floats
