-- Each way out is the case of `timer_clocked` that the timer picks. Assumes nothing.
use borrow.Author.Tests.{eq-eqb, ne_eqb}
use Rattle.ground.specs.Pick.{pick}
use Rattle.channel_wave.specs.Wave.{timer_clocked}
use Rattle.channel_wave.proofs.wave_channel.WaveChannel.clock_timer.Goals as goal

pub returns-then-self-eq0 : goal.returns-then-self-eq0
unfolding pick timer_clocked
returns-then-self-eq0 c = rw (c.reload.ensures, eq-eqb _ _ c.if-self-eq0.true)

pub returns-else-self-eq0 : goal.returns-else-self-eq0
unfolding pick timer_clocked
returns-else-self-eq0 c = rw (ne_eqb _ _ c.if-self-eq0.false)
