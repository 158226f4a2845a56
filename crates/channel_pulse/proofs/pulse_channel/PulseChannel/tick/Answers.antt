-- Each way out is the case of `ticked` that the timer picks. Assumes nothing.
use borrow.Author.Tests.{eq-eqb, ne_eqb}
use Rattle.ground.specs.Pick.{pick}
use Rattle.channel_pulse.specs.Pulse.{ticked}
use Rattle.channel_pulse.proofs.pulse_channel.PulseChannel.tick.Goals as goal

pub returns-then-self-eq0 : goal.returns-then-self-eq0
unfolding pick ticked
returns-then-self-eq0 c = rw (c.reload.ensures, eq-eqb _ _ c.if-self-eq0.true)

pub returns-else-self-eq0 : goal.returns-else-self-eq0
unfolding pick ticked
returns-else-self-eq0 c = rw (ne_eqb _ _ c.if-self-eq0.false)
