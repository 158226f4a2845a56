-- The ranges of the sound unit, made of its parts'. `Held` is all that a register or clock call asks of a state. Assumes nothing.
use Rattle.std.specs.Prelude.{◌≤◌}
use Rattle.clocks.specs.Counter.{Kept}
use Rattle.clocks.specs.Calls.{K}
use Rattle.channel_groups.specs.PulseGroups as pulse
use Rattle.channel_groups.specs.WaveGroups as wave
use Rattle.channel_groups.specs.NoiseGroups as noise
use Rattle.clocks.specs.Position.{PositionHeld}
use Rattle.apu.specs.declared.Apu.{Apu}

-- "Ranges held from the start"; "half-clocks 0..1"
pub record Held (a : Apu) : Type 0 where
  pub pulse1 : pulse.Held a.pulse1
  pub pulse2 : pulse.Held a.pulse2
  pub wave : wave.Held a.wave
  pub noise : noise.Held a.noise
  pub position : PositionHeld a.sequencer_position
  pub clocks : a.clocks_counter ≤ 1

-- the ranges of the floats, which only playing many calls at once asks: capacitors from 0 to 1, the sample counter a whole number of 2 ^ -48 below N
pub record FloatsHeld (a : Apu) : Type 0 where
  pub pulse1 : pulse.FloatHeld a.pulse1
  pub pulse2 : pulse.FloatHeld a.pulse2
  pub wave : wave.FloatHeld a.wave
  pub noise : noise.FloatHeld a.noise
  pub counter : Kept 48 K a.sample_counter

-- all ranges of a unit: what every call keeps, what a unit taken from an image has, and what playing asks
pub record Whole (a : Apu) : Type 0 where
  pub held : Held a
  pub floats : FloatsHeld a
