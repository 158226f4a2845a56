-- The result is the definition's, by what its call ensures. Assumes nothing.
use Rattle.channel_pulse.specs.Sweep.{calculated}
use Rattle.channel_pulse.proofs.sweep.Sweep.sweep_calculation.Goals as goal

pub returns : goal.returns
unfolding calculated
returns c = rw c.target-result.ensures
