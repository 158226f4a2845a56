-- What an image's fields are as bytes, in reading order. Assumes nothing.
pub mod Bytes  -- numbers, yes and no
pub mod Codes  -- the sequencer's position, the wave shift
pub mod Floats  -- capacitors and sample counters
