-- The parts are the definition's, by what the calls ensure. Assumes nothing.
use Rattle.channel_groups.specs.WaveGroups.{volume_written}
use Rattle.channel_groups.proofs.wave_group.WaveGroup.write_volume.Goals as goal

pub returns : goal.returns
unfolding volume_written
returns c = rw c.write_volume-next.ensures
