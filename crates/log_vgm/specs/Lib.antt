-- How a VGM file becomes an access log, in reading order. Assumes nothing.
pub mod Header  -- what a header must have
pub mod Commands  -- the commands, in file order
pub mod Clockwork  -- the clock calls that samples become
pub mod Log  -- the records that commands become, and the log's bytes
pub mod Running  -- the divider in every call of an imported log
pub mod Imports  -- refusals 9, 10, 11 and 6
