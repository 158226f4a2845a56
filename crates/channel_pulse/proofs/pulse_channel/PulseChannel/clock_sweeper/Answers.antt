-- The sweep is the one clocked, by what its call ensures. Assumes nothing.
use Rattle.channel_pulse.specs.Pulse.{sweep_clocked}
use Rattle.channel_pulse.proofs.pulse_channel.PulseChannel.clock_sweeper.Goals as goal

pub returns : goal.returns
unfolding sweep_clocked
returns c = rw c.clock_sweeper-swept.ensures
