-- The parts are the definition's, by what the calls ensure. Assumes nothing.
use Rattle.channel_groups.specs.WaveGroups.{dac_written}
use Rattle.channel_groups.proofs.wave_group.WaveGroup.write_dac.Goals as goal

pub returns : goal.returns
unfolding dac_written
returns c = rw c.set_dac_enable-next.ensures
