-- What the working clocks of the four channels move, and what they leave as it is. Assumes nothing.
use Rattle.std.specs.Prelude.{Bool, ℕ, ◌/◌, ◌≤◌, ltb, min, Float}
use Rattle.ground.specs.Pick.{pick}
use Rattle.ground.specs.Iterate.{iterate}
use Rattle.channel_pulse.specs.Pulse as pulse
use Rattle.channel_pulse.specs.Phase.{PulsePhaseHeld, pulse_phase_of, with_pulse_phase, pulse_phase_clocked}
use Rattle.channel_wave.specs.Wave as wave
use Rattle.channel_wave.specs.Phase.{WavePhaseHeld, wave_phase_of, with_wave_phase, wave_phase_clocked}
use Rattle.channel_noise.specs.Noise as noise
use Rattle.channel_noise.specs.Phase.{NoisePhaseHeld, noise_phase_of, with_noise_phase, noise_phase_clocked}
use Rattle.channel_groups.specs.declared.group.Group.{Group}
use Rattle.channel_groups.specs.PulseGroups.{PulseGroup}
use Rattle.channel_groups.specs.WaveGroups.{WaveGroup}
use Rattle.channel_groups.specs.NoiseGroups.{NoiseGroup}
use Rattle.channel_pulse.specs.declared.phase.PulsePhase.{PulsePhase}
use Rattle.channel_wave.specs.declared.phase.WavePhase.{WavePhase}
use Rattle.channel_noise.specs.declared.phase.NoisePhase.{NoisePhase}
use Rattle.frame.specs.declared.converter.Converter.{Converter}
use Rattle.frame.specs.Held as float
use Rattle.apu.specs.With.{with_groups, with_clocks}
use Rattle.apu.specs.declared.Apu.{Apu}
use Rattle.apu_run.specs.declared.phases.Phases.{Phases}
use Rattle.apu_run.specs.declared.phases.TonePhases.{TonePhases}
use Rattle.apu_run.specs.declared.phases.Settings.{Settings}
use Rattle.apu_run.specs.declared.phases.Converters.{Converters}

-- what is left as it is; of its channels, what moves is not read
abbrev pub settings_of : Apu → Settings
settings_of a =
    record {
      pulse1 = a.pulse1.channel;
      pulse2 = a.pulse2.channel;
      wave = a.wave.channel;
      noise = a.noise.channel;
      channels_control = a.channels_control;
      channels_selection = a.channels_selection;
      power = a.power;
      noise_reload = noise.reload_of a.noise.channel;
    }

-- what moves with each clock
abbrev pub phases_of : Apu → Phases
phases_of a =
    record {
      pulse1 = pulse_phase_of a.pulse1.channel;
      pulse2 = pulse_phase_of a.pulse2.channel;
      wave = wave_phase_of a.wave.channel;
      noise = noise_phase_of a.noise.channel;
    }

-- what moves with each frame
abbrev pub converters_of : Apu → Converters
converters_of a = record { pulse1 = a.pulse1.converter; pulse2 = a.pulse2.converter; wave = a.wave.converter; noise = a.noise.converter }

-- the ranges of each
pub record SettingsHeld (s : Settings) : Type 0 where
  pub pulse1 : pulse.Held s.pulse1
  pub pulse2 : pulse.Held s.pulse2
  pub wave : wave.Held s.wave
  pub noise : noise.Held s.noise
  pub reload : s.noise_reload ≤ 16383

pub record PhasesHeld (m : Phases) : Type 0 where
  pub pulse1 : PulsePhaseHeld m.pulse1
  pub pulse2 : PulsePhaseHeld m.pulse2
  pub wave : WavePhaseHeld m.wave
  pub noise : NoisePhaseHeld m.noise

pub record ConvertersHeld (k : Converters) : Type 0 where
  pub pulse1 : float.Held k.pulse1
  pub pulse2 : float.Held k.pulse2
  pub wave : float.Held k.wave
  pub noise : float.Held k.noise

-- n working clocks of the pulses and the wave, with power on
abbrev pub tones_after : Settings → ℕ → Phases → TonePhases
tones_after s n m =
    record {
      pulse1 = iterate n (pulse_phase_clocked s.pulse1.first_trigger (pulse.reload_of s.pulse1)) m.pulse1;
      pulse2 = iterate n (pulse_phase_clocked s.pulse2.first_trigger (pulse.reload_of s.pulse2)) m.pulse2;
      wave = iterate n (wave_phase_clocked (wave.reload_of s.wave)) m.wave;
    }

-- between two steps of a channel are at least as many clocks as its timer reloads to, of the wave half of it: whether a frame, 23 clocks or 24, is longer
unfoldable pub fast_of : Settings → Bool
fast_of s =
    let tones = min (min (pulse.reload_of s.pulse1) (pulse.reload_of s.pulse2)) (wave.reload_of s.wave / 2) in
    ltb (min tones s.noise_reload) 23

-- a working clock of what moves: "With power off, stop", else "Clock pulse 1, pulse 2, wave, noise"
unfoldable pub phases_clocked : Settings → Phases → Phases
phases_clocked s m =
    pick s.power
    (record {
      pulse1 = pulse_phase_clocked s.pulse1.first_trigger (pulse.reload_of s.pulse1) m.pulse1;
      pulse2 = pulse_phase_clocked s.pulse2.first_trigger (pulse.reload_of s.pulse2) m.pulse2;
      wave = wave_phase_clocked (wave.reload_of s.wave) m.wave;
      noise = noise_phase_clocked s.noise.step_mode_7_bits s.noise_reload m.noise;
    })
    m

-- a group with another converter and another channel
abbrev pub group_with : {C : Type 0} → Group C → Converter → C → Group C
group_with g d c = record { converter = d; length = g.length; channel = c }

-- a group with another converter, and with what moves as given
abbrev pub pulse_with : PulseGroup → Converter → PulsePhase → PulseGroup
pulse_with g d t = group_with g d (with_pulse_phase g.channel t)

abbrev pub wave_with : WaveGroup → Converter → WavePhase → WaveGroup
wave_with g d t = group_with g d (with_wave_phase g.channel t)

abbrev pub noise_with : NoiseGroup → Converter → NoisePhase → NoiseGroup
noise_with g d t = group_with g d (with_noise_phase g.channel t)

-- the unit with all of it put back, and the sample counter
abbrev pub put_back : Apu → Phases → Converters → Float → Apu
put_back a m k counter =
    with_clocks
    (with_groups a
    (pulse_with a.pulse1 k.pulse1 m.pulse1)
    (pulse_with a.pulse2 k.pulse2 m.pulse2)
    (wave_with a.wave k.wave m.wave)
    (noise_with a.noise k.noise m.noise))
    counter
    a.clocks_counter
