-- The envelope is the one written, and the DAC as set, by what the two calls ensure. Assumes nothing.
use Rattle.channel_pulse.specs.Pulse.{enveloped}
use Rattle.channel_pulse.proofs.pulse_channel.PulseChannel.write_envelope_register.Goals as goal

pub returns : goal.returns
unfolding enveloped
returns c = rw (c.set_dac_enable.ensures, c.write_envelope_register-next.ensures)
