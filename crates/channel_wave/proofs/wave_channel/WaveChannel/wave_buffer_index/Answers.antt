-- Each way out is the case of `index_of` that the tests pick. Assumes nothing.
use Rattle.ground.specs.Pick.{pick}
use Rattle.channel_wave.specs.Wave.{index_of}
use Rattle.channel_wave.proofs.wave_channel.WaveChannel.wave_buffer_index.Goals as goal

pub returns-then-dmg-self : goal.returns-then-dmg-self
unfolding pick index_of
returns-then-dmg-self c = rw (c.if-self.true, c.if-dmg-self.true)

pub returns-else-dmg-self : goal.returns-else-dmg-self
unfolding pick index_of
returns-else-dmg-self c = rw (c.if-self.true, c.if-dmg-self.false)

pub returns-else-self : goal.returns-else-self
unfolding pick index_of
returns-else-self c = rw c.if-self.false
