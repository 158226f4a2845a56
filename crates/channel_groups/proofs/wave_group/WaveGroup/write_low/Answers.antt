-- The parts are the definition's, by what the calls ensure. Assumes nothing.
use Rattle.channel_groups.specs.WaveGroups.{tuned}
use Rattle.channel_groups.proofs.wave_group.WaveGroup.write_low.Goals as goal

pub returns : goal.returns
unfolding tuned
returns c = rw (c.write_frequency-next.ensures, c.low_written-frequency.ensures)
