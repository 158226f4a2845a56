-- The rules of the groups, each a channel with its length record and its converter, in reading order. Assumes nothing.
pub mod Bits  -- register bits that several groups share
pub mod Groups  -- what all groups do alike
pub mod PulseGroups  -- FF10..FF14, FF15..FF19
pub mod WaveGroups  -- FF1A..FF1E, and wave RAM
pub mod NoiseGroups  -- FF1F..FF23
pub mod Keeps  -- that the rules of a channel keep its ranges
