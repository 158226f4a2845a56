-- What a chain of logs comes to. Assumes nothing.
pub mod Chains
