-- What the working clocks of the wave move, taken out of the channel and put back. Assumes nothing.
use Rattle.std.specs.Prelude.{ℕ, ◌+◌, ◌-◌, ◌%◌, ◌≤◌, true, false, eqb}
use Rattle.ground.specs.Pick.{pick}
use Rattle.channel_wave.specs.With.{with_position_and_timer}
use Rattle.channel_wave.specs.declared.phase.WavePhase.{WavePhase}
use Rattle.channel_wave.specs.declared.wave_channel.WaveChannel.{WaveChannel}

-- "Ranges held from the start": wave timer 0..2050, wave position 0..31
pub record WavePhaseHeld (s : WavePhase) : Type 0 where
  pub position : s.buffer_position ≤ 31
  pub timer : s.frequency_timer ≤ 2050

-- the moving part of a channel
abbrev pub wave_phase_of : WaveChannel → WavePhase
wave_phase_of w =
    record {
      buffer_position = w.buffer_position;
      buffer_position_just_clocked = w.buffer_position_just_clocked;
      frequency_timer = w.frequency_timer;
    }

-- a channel with another moving part
abbrev pub with_wave_phase : WaveChannel → WavePhase → WaveChannel
with_wave_phase w s = with_position_and_timer w s.buffer_position s.buffer_position_just_clocked s.frequency_timer

-- one clock of its timer, by what that reloads to: "A timer at 0 steps its channel and reloads, else loses 1"
unfoldable pub phase_timer_clocked : ℕ → WavePhase → WavePhase
phase_timer_clocked reload s =
    pick (eqb s.frequency_timer 0)
    (record { buffer_position = (s.buffer_position + 1) % 32; buffer_position_just_clocked = true; frequency_timer = reload })
    (record { buffer_position = s.buffer_position; buffer_position_just_clocked = false; frequency_timer = s.frequency_timer - 1 })

-- a working clock: "The wave is clocked twice; "just clocked" is about the second"
unfoldable pub wave_phase_clocked : ℕ → WavePhase → WavePhase
wave_phase_clocked reload s = phase_timer_clocked reload (phase_timer_clocked reload s)
