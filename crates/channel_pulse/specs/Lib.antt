-- The rules of a pulse channel, in reading order. Assumes nothing.
pub mod Sweep  -- its sweep
pub mod Pulse  -- the channel: duty, timer, trigger, output
pub mod With  -- records with one thing written anew, no rules
-- ---- for speed and its proofs alone: no rule is said in these words, and no promise to who calls the unit or plays a log
pub mod Phase  -- what its clocks move, for many at once
