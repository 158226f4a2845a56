-- The parts are the definition's, by what the calls ensure. Assumes nothing.
use Rattle.channel_groups.specs.PulseGroups.{envelope_clocked}
use Rattle.channel_groups.proofs.pulse_group.PulseGroup.clock_envelope.Goals as goal

pub returns : goal.returns
unfolding envelope_clocked
returns c = rw c.clock-next.ensures
