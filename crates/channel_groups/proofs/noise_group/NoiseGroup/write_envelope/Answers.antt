-- The parts are the definition's, by what the calls ensure. Assumes nothing.
use Rattle.channel_groups.specs.NoiseGroups.{envelope_written}
use Rattle.channel_groups.proofs.noise_group.NoiseGroup.write_envelope.Goals as goal

pub returns : goal.returns
unfolding envelope_written
returns c = rw c.write_envelope_register-next.ensures
