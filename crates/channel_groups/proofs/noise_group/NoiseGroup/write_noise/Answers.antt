-- The parts are the definition's, by what the calls ensure. Assumes nothing.
use Rattle.channel_groups.specs.NoiseGroups.{noise_written}
use Rattle.channel_groups.proofs.noise_group.NoiseGroup.write_noise.Goals as goal

pub returns : goal.returns
unfolding noise_written
returns c = rw c.write_noise_register-next.ensures
