-- Each way out is the case of `clocked` that the first trigger picks. Assumes nothing.
use Rattle.ground.specs.Pick.{pick}
use Rattle.channel_pulse.specs.Pulse.{clocked}
use Rattle.channel_pulse.proofs.pulse_channel.PulseChannel.clock.Goals as goal

pub returns-then-self : goal.returns-then-self
unfolding pick clocked
returns-then-self c = rw (c.tick.ensures, c.if-self.true)

pub returns-else-self : goal.returns-else-self
unfolding pick clocked
returns-else-self c = rw c.if-self.false
