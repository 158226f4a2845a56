-- Each way out is the case of `buffer_at_trigger` that the test picks. Assumes nothing.
use Rattle.ground.specs.Pick.{pick}
use Rattle.channel_wave.specs.Wave.{buffer_at_trigger}
use Rattle.channel_wave.proofs.wave_channel.WaveChannel.buffer_at_trigger.Goals as goal

pub returns-then-dmg-self : goal.returns-then-dmg-self
unfolding pick buffer_at_trigger
returns-then-dmg-self c = rw (c.rewrite.ensures, c.if-dmg-self.true)

pub returns-else-dmg-self : goal.returns-else-dmg-self
unfolding pick buffer_at_trigger
returns-else-dmg-self c = rw c.if-dmg-self.false
