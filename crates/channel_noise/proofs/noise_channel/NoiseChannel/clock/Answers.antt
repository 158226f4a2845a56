-- Each way out is the case of `clocked` that the timer picks. Assumes nothing.
use borrow.Author.Tests.{eq-eqb, ne_eqb}
use Rattle.ground.specs.Pick.{pick}
use Rattle.channel_noise.specs.Noise.{clocked}
use Rattle.channel_noise.proofs.noise_channel.NoiseChannel.clock.Goals as goal

pub returns-then-self-eq0 : goal.returns-then-self-eq0
unfolding pick clocked
returns-then-self-eq0 c = rw (eq-eqb _ _ c.if-self-eq0.true, c.step_one.ensures.value, c.get_frequency.ensures)

pub returns-else-self-eq0 : goal.returns-else-self-eq0
unfolding pick clocked
returns-else-self-eq0 c = rw (ne_eqb _ _ c.if-self-eq0.false)
