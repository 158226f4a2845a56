-- The envelope is the one triggered, by what its call ensures. Assumes nothing.
use Rattle.channel_noise.specs.Noise.{triggered}
use Rattle.channel_noise.proofs.noise_channel.NoiseChannel.trigger.Goals as goal

pub returns : goal.returns
unfolding triggered
returns c = rw c.trigger-next.ensures
