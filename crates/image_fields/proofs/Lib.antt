-- The laws of an image's fields that its functions are proved by. Assumes nothing.
pub mod Rows  -- a run of stores in two pieces, and a row of bytes as one part
pub mod Keeping  -- which patterns are kept sample counters
pub mod Patterns  -- patterns that are no NaN's
