-- The laws of imported logs. Assumes nothing.
pub mod Lengths  -- how many bytes records have
pub mod Counted  -- what the code keeps of the samples is enough
pub mod Reading  -- the command at a place, by the bytes from there on
pub mod Walking  -- the commands from a place on
pub mod Scanning  -- what the scan finds
pub mod Putting  -- the bytes put so far
pub mod ReadBack  -- a log written from records is read back
pub mod Playing  -- what a player makes of an imported log
pub mod Headers  -- what a header that is taken has
pub mod Answering  -- from the scan to the answer
