-- The laws of playing on kept units. Assumes nothing.
pub mod Answering  -- what is told, by the tests that were passed
pub mod Making  -- a fresh unit's image
