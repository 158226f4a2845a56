-- Images of version 1, in reading order. Assumes nothing.
pub mod Layout  -- where each part begins
pub mod Image  -- all of a unit as bytes, and back
pub mod Answers  -- what writing and taking an image answer
