-- The half-clocks are the definition's, and nothing overflows: 16,385 times 2 ^ 48 and a rest below K stay under 2 ^ 64. Assumes nothing.
use Rattle.clocks.proofs.meter.Meter.calls.Goals as goal

pub returns : goal.returns
returns c = rw c.half_clocks_of.ensures.value
