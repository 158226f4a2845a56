-- The laws of the groups. Assumes nothing.
pub mod Ranges
pub mod Untouched
