-- The parts are the definition's, by what the calls ensure. Assumes nothing.
use Rattle.channel_groups.specs.WaveGroups.{ram_written}
use Rattle.channel_groups.proofs.wave_group.WaveGroup.write_ram.Goals as goal

pub returns : goal.returns
unfolding ram_written
returns c = rw c.write_buffer-next.ensures
