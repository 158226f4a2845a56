-- Wave RAM is the definition's, by what its call ensures. Assumes nothing.
use Rattle.channel_wave.specs.Wave.{triggered}
use Rattle.channel_wave.proofs.wave_channel.WaveChannel.trigger.Goals as goal

pub returns : goal.returns
unfolding triggered
returns c = rw c.buffer_at_trigger-next.ensures
