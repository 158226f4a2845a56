-- The calculation is the definition's. Assumes nothing.
use Rattle.channel_pulse.specs.Sweep.{checked}
use Rattle.channel_pulse.proofs.sweep.Sweep.check.Goals as goal

pub returns : goal.returns
unfolding checked
returns c = rw c.sweep_calculation-found.ensures
