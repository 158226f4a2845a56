-- The first half keeps the ranges that the second asks. Assumes nothing.
use Rattle.channel_wave.specs.Wave.{clocked}
use Rattle.channel_wave.proofs.Ranges.{wave_timer_held}
use Rattle.channel_wave.proofs.wave_channel.WaveChannel.clock.Goals as goal

pub clock_timer-requires-2 : goal.clock_timer-requires-2
clock_timer-requires-2 c = rw c.clock_timer.ensures (wave_timer_held _ c.requires)

pub returns : goal.returns
unfolding clocked
returns c = rw (c.clock_timer-2.ensures, c.clock_timer.ensures)
