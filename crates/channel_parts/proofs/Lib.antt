-- The laws of the parts. Assumes nothing.
pub mod Ranges
