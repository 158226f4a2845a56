-- The parts are the definition's, by what the calls ensure. Assumes nothing.
use Rattle.channel_groups.specs.NoiseGroups.{length_written}
use Rattle.channel_groups.proofs.noise_group.NoiseGroup.write_length.Goals as goal

pub returns : goal.returns
unfolding length_written
returns c = rw c.write_sound_length-next.ensures
