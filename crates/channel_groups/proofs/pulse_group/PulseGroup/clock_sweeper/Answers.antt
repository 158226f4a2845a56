-- The parts are the definition's, by what the calls ensure. Assumes nothing.
use Rattle.channel_groups.specs.PulseGroups.{sweep_clocked}
use Rattle.channel_groups.proofs.pulse_group.PulseGroup.clock_sweeper.Goals as goal

pub returns : goal.returns
unfolding sweep_clocked
returns c = rw c.clock_sweeper-next.ensures
