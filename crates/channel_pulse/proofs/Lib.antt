-- The laws of a pulse channel. Assumes nothing.
pub mod Ranges
pub mod NeverWraps
pub mod Phases
