-- The output at what its own clocks came to. Assumes nothing.
use Rattle.channel_noise.proofs.noise_channel.NoiseChannel.output.Goals as goal

pub returns : goal.returns
returns c = rw (c.output_at.ensures, c.phase.ensures)
