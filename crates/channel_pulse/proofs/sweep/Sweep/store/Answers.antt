-- The check is the definition's, on the sweep with its shadow stored. Assumes nothing.
use Rattle.channel_pulse.specs.Sweep.{stored}
use Rattle.channel_pulse.proofs.sweep.Sweep.store.Goals as goal

pub returns : goal.returns
unfolding stored
returns c = rw c.check-again.ensures
