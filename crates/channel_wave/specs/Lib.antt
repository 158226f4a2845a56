-- The rules of the wave channel, in reading order. Assumes nothing.
pub mod Wave  -- the channel: volume, RAM, timer, trigger, output
pub mod With  -- the record with one thing written anew, no rules
-- ---- for speed and its proofs alone: no rule is said in these words, and no promise to who calls the unit or plays a log
pub mod Phase  -- what its clocks move, for many at once
