-- The parts are the definition's, by what the calls ensure. Assumes nothing.
use Rattle.channel_groups.specs.PulseGroups.{sweep_written}
use Rattle.channel_groups.proofs.pulse_group.PulseGroup.write_sweep.Goals as goal

pub returns : goal.returns
unfolding sweep_written
returns c = rw c.write_sweep_register-next.ensures
