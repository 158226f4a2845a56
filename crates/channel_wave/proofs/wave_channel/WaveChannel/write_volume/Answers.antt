-- The shift is that of the volume, by what the call ensures. Assumes nothing.
use Rattle.channel_wave.proofs.wave_channel.WaveChannel.write_volume.Goals as goal

pub returns : goal.returns
returns c = rw c.shift_of.ensures
