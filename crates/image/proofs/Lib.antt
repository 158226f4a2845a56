-- The laws of writing and taking an image. Assumes nothing.
pub mod Answering  -- by the tests that were passed
