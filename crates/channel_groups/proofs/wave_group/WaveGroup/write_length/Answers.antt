-- The parts are the definition's, by what the calls ensure. Assumes nothing.
use Rattle.channel_groups.specs.WaveGroups.{length_written}
use Rattle.channel_groups.proofs.wave_group.WaveGroup.write_length.Goals as goal

pub returns : goal.returns
unfolding length_written
returns c = rw c.write_sound_length-next.ensures
