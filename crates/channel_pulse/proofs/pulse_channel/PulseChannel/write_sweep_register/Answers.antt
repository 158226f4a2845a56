-- The sweep is the one written, by what its call ensures. Assumes nothing.
use Rattle.channel_pulse.specs.Pulse.{sweep_written}
use Rattle.channel_pulse.proofs.pulse_channel.PulseChannel.write_sweep_register.Goals as goal

pub returns : goal.returns
unfolding sweep_written
returns c = rw c.write_sweep_register-checked.ensures
