-- The stored shift is at most 4, and each way out is the case of `output_of` that the channel picks. Assumes nothing.
use native.Mathlib.Omega.{arith}
use Rattle.ground.specs.Pick.{pick}
use Rattle.channel_wave.specs.Wave.{output_of}
use Rattle.channel_wave.proofs.Ranges.{shift_le}
use Rattle.channel_wave.proofs.wave_channel.WaveChannel.output_at.Goals as goal

pub overflow_shr-shifted : goal.overflow_shr-shifted
overflow_shr-shifted c = omega (arith, shift_le c.args.self c.requires.held)

pub returns-then-self : goal.returns-then-self
unfolding pick output_of
returns-then-self c = rw (← c.nibble_at-nibble.ensures, c.if-self.true)

pub returns-else-self : goal.returns-else-self
unfolding pick output_of
returns-else-self c = rw c.if-self.false
