-- Many clock calls at once, in reading order. Assumes nothing.
pub mod Calls  -- one call, and the calls of a record: what playing promises
-- ---- for speed and its proofs alone: no rule is said in these words, and no promise to who calls the unit or plays a log
pub mod Working  -- a working clock that moves no sequencer, and many of them
pub mod Phases  -- what such clocks move, taken out of the unit and put back
pub mod FrameStep  -- a frame from what was taken out
pub mod FrameSettings  -- the same by what the settings give to every frame
pub mod Parts  -- what a run hands back
pub mod Owed  -- calls that see one divider bit, as working clocks
