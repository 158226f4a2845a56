-- The laws of a frame's numbers. Assumes nothing.
pub mod Ranges
pub mod Lending
pub mod Room
pub mod Constants
pub mod Numbers
