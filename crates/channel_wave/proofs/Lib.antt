-- The laws of the wave channel. Assumes nothing.
pub mod Ranges
pub mod Phases
pub mod Copies
