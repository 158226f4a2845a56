-- The rules of what several channels are made of, in reading order. Assumes nothing.
pub mod Envelope  -- volume steps
pub mod Length  -- the length counter
