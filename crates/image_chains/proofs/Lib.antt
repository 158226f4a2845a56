-- The laws of chains. Assumes nothing.
pub mod Hold
