-- The laws of many clock calls at once: of a run from frame to frame, then of the calls of a record. Assumes nothing.
pub mod FrameSteps  -- a frame by what its run's settings give, and a silent one
pub mod Parts  -- a run by what it moves alone
pub mod Moves  -- many clocks of what moves
pub mod Calm  -- how long no output changes
pub mod FrameTurns  -- from one frame to the next
pub mod Rans  -- what a run hands back
pub mod Running  -- what holds at each turn of the loop over frames
pub mod Resting  -- and of the loop over silent ones
pub mod Ranges  -- a working clock keeps the ranges
pub mod Settling  -- what a run moved, put back into its unit
pub mod Rows  -- clock calls one by one
pub mod Beats  -- a call by the divider bit that it sees: a working clock of the run, then the bit stored
pub mod Marks  -- what a run of working clocks neither reads nor changes, and the ranges that it keeps
pub mod Stretches  -- many calls that see one bit
pub mod Dividers  -- how many calls see one bit
pub mod Playing  -- what the loops of a player hold on to
pub mod Turns  -- some calls on a unit that owes working clocks
pub mod Idles  -- a step of the sequencer that a run need not end for
pub mod Owing  -- the loop of a record's calls
