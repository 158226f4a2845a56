-- The proof of the marked examples. Assumes nothing.
pub mod Hold
