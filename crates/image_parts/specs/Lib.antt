-- The parts of an image, in reading order. Assumes nothing.
pub mod Parts  -- converter, length, envelope
pub mod Groups  -- a group, for any channel
pub mod Pulse  -- sweep, pulse channel, pulse group
pub mod Wave  -- wave RAM, wave channel, wave group
pub mod Noise  -- noise channel, noise group
