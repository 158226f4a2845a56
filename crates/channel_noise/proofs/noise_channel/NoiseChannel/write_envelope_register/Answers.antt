-- The envelope is the one written, and the DAC as set, by what the two calls ensure. Assumes nothing.
use Rattle.channel_noise.specs.Noise.{enveloped}
use Rattle.channel_noise.proofs.noise_channel.NoiseChannel.write_envelope_register.Goals as goal

pub returns : goal.returns
unfolding enveloped
returns c = rw (c.set_dac_enable.ensures, c.write_envelope_register-next.ensures)
