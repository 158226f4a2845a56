-- Each way out is the nibble that the position picks. Assumes nothing.
use borrow.Author.Tests.{eq-eqb, ne_eqb}
use Rattle.ground.specs.Pick.{pick}
use Rattle.channel_wave.specs.Wave.{nibble_of}
use Rattle.channel_wave.proofs.wave_channel.WaveChannel.nibble_at.Goals as goal

pub returns-then-phase-eq0 : goal.returns-then-phase-eq0
unfolding pick nibble_of
returns-then-phase-eq0 c = rw (eq-eqb _ _ c.if-phase-eq0.true)

pub returns-else-phase-eq0 : goal.returns-else-phase-eq0
unfolding pick nibble_of
returns-else-phase-eq0 c = rw (ne_eqb _ _ c.if-phase-eq0.false)
