-- The parts are the definition's, by what the calls ensure. Assumes nothing.
use Rattle.channel_groups.specs.PulseGroups.{rewound}
use Rattle.channel_groups.proofs.pulse_group.PulseGroup.rewind.Goals as goal

pub returns : goal.returns
unfolding rewound
returns c = rw c.reset_sequencer-next.ensures
