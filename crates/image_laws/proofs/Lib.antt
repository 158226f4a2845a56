-- The laws of an image and its parts, in reading order. Of each part `..-back` says that what was written is read back, `..-same` that what passes its tests
-- is written again as it stood, `..-held` that this lies in its ranges, and `..-fits` that what lies in them passes. Assumes nothing.
pub mod Numbers  -- yes and no, numbers of two, four and eight bytes
pub mod Charges  -- a capacitor's range by its pattern
pub mod Floats  -- capacitors and sample counters by their patterns
pub mod Codes  -- the sequencer's position, the wave shift
pub mod Parts  -- converter, length record, envelope; what the groups share
pub mod Groups  -- a group, for any channel
pub mod Pulse  -- sweep, pulse channel, pulse group
pub mod Wave  -- wave RAM, wave channel, wave group
pub mod Noise  -- noise channel, noise group
pub mod Tail  -- the unit's own fields
pub mod Whole  -- a whole image
pub mod Hold  -- the promises of request 2026-01
