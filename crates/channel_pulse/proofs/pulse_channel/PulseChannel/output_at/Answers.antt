-- The bit is the definition's, and the flag picks the volume or 0. Assumes nothing.
use Rattle.channel_pulse.specs.Pulse.{output_of}
use Rattle.channel_pulse.proofs.pulse_channel.PulseChannel.output_at.Goals as goal

pub returns : goal.returns
unfolding output_of
returns c = rw (c.flag.ensures.value, c.duty_row-row.ensures)
