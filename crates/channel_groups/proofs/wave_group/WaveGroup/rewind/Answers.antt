-- The parts are the definition's, by what the calls ensure. Assumes nothing.
use Rattle.channel_groups.specs.WaveGroups.{rewound}
use Rattle.channel_groups.proofs.wave_group.WaveGroup.rewind.Goals as goal

pub returns : goal.returns
unfolding rewound
returns c = rw c.reset_buffer_index-next.ensures
