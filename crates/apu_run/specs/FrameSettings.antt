-- A frame in parts: what a run's settings give to each of its frames, the levels that those and what moves give, which stay while no output changes, and the
-- frame from both, all arms of each choice worked out. For the code and its proof alone: what a frame is, `frame_step_of` says (and that the parts are it:
-- `by_frame_settings` of proofs/FrameSteps.antt). Assumes nothing.
use Rattle.std.specs.Prelude.{ℕ, ◌+◌, ◌-◌, ◌*◌, ◌/◌, ◌%◌, ◌^◌, ◌≤◌, Bool, not, ◌&&◌, List, eqb, pos, get_or, min, Float}
use Rattle.std.specs.Float.{binary32}
use Rattle.std.specs.Float.Ieee.{of_int, add, sub, mul, div}
use Rattle.ground.specs.Pick.{pick}
use Rattle.frame.specs.Converter.{f0, keep, in_of}
use Rattle.frame.specs.Mixing.{f1, f5, f8, selected_of, mixed}
use Rattle.frame.specs.declared.converter.Converter.{Converter}
use Rattle.frame.specs.declared.mixing.Sides.{Sides}
use Rattle.frame.specs.declared.mixing.Voiced.{Voiced}
use Rattle.channel_pulse.specs.Pulse as pulse
use Rattle.channel_pulse.specs.declared.phase.PulsePhase.{PulsePhase}
use Rattle.channel_pulse.specs.declared.pulse_channel.PulseChannel.{PulseChannel}
use Rattle.channel_wave.specs.Wave as wave
use Rattle.channel_noise.specs.Noise as noise
use Rattle.channel_noise.specs.declared.phase.NoisePhase.{NoisePhase}
use Rattle.apu_run.specs.declared.phases.Phases.{Phases}
use Rattle.apu_run.specs.declared.phases.Settings.{Settings}
use Rattle.apu_run.specs.declared.phases.Converters.{Converters}
use Rattle.apu_run.specs.declared.frame_settings.Route.{Route}
use Rattle.apu_run.specs.declared.frame_settings.PulseSettings.{PulseSettings}
use Rattle.apu_run.specs.declared.frame_settings.FrameSettings.{FrameSettings}
use Rattle.apu_run.specs.declared.levels.Levels.{Levels}
use Rattle.apu_run.specs.declared.frame_step.FrameStep.{FrameStep}

-- ---- once for a run
-- "(volume+1)"
abbrev pub loud_of : ℕ → Float
loud_of volume = add binary32 (of_int binary32 (pos volume)) f1

-- where FF25 selects a channel, 0 to 3; "A muted one gives 0"
unfoldable pub route_of : Bool → ℕ → ℕ → Route
route_of muted selection channel =
    record { muted = muted; rightward = selected_of selection channel && not muted; leftward = selected_of selection (channel + 4) && not muted }

abbrev pub pulse_settings_of : PulseChannel → ℕ → ℕ → PulseSettings
pulse_settings_of p selection channel =
    record { row = pulse.duty_row p.duty; volume = p.envelope.current_volume; route = route_of (pulse.muted_of p) selection channel }

unfoldable pub frame_settings_of : Settings → FrameSettings
frame_settings_of s =
    record {
      pulse1 = pulse_settings_of s.pulse1 s.channels_selection 0;
      pulse2 = pulse_settings_of s.pulse2 s.channels_selection 1;
      wave_shift = s.wave.volume_shift;
      wave_route = route_of (wave.muted_of s.wave) s.channels_selection 2;
      noise_volume = s.noise.envelope.current_volume;
      noise_route = route_of (noise.muted_of s.noise) s.channels_selection 3;
      loud = record { right = loud_of (s.channels_control % 8); left = loud_of (s.channels_control / 16 % 8) };
    }

-- their ranges
pub record FrameSettingsHeld (t : FrameSettings) : Type 0 where
  pub pulse1 : t.pulse1.volume ≤ 15
  pub pulse2 : t.pulse2.volume ≤ 15
  pub wave : t.wave_shift ≤ 4
  pub noise : t.noise_volume ≤ 15

-- ---- for each frame, what a channel that is on gives out
-- "Pulse: duty bit at the position × volume"
unfoldable pub pulse_output : ℕ → ℕ → ℕ → ℕ
pulse_output row volume position = row / 2 ^ (7 - position) % 2 * volume

-- "Wave: byte position/2, high nibble at even positions, shifted right"
unfoldable pub nibble_at : ℕ → List ℕ → ℕ
nibble_at position ram = let byte = get_or ram (position / 2) 0 in pick (eqb (position % 2) 0) (byte / 16 % 16) (byte % 16)

abbrev pub wave_output : ℕ → ℕ → List ℕ → ℕ
wave_output shift position ram = nibble_at position ram / 2 ^ shift

-- "Noise: (bit 0 xor 1) × volume"
abbrev pub noise_output : ℕ → ℕ → ℕ
noise_output volume register = (1 - register % 2) * volume

-- what goes into each converter: "in = output/15"
unfoldable pub levels_of : FrameSettings → Phases → List ℕ → Levels
levels_of t m ram =
    record {
      pulse1 = in_of (pulse_output t.pulse1.row t.pulse1.volume m.pulse1.sequencer_position);
      pulse2 = in_of (pulse_output t.pulse2.row t.pulse2.volume m.pulse2.sequencer_position);
      wave = in_of (wave_output t.wave_shift m.wave.buffer_position ram);
      noise = in_of (noise_output t.noise_volume m.noise.feedback_shift_register);
    }

-- none yet
abbrev pub no_levels : Levels
no_levels = record { pulse1 = f0; pulse2 = f0; wave = f0; noise = f0 }

-- a level through its converter to both sides; the converter goes on though the channel be muted
unfoldable pub sound_of : Converter → Float → Route → Sides → Voiced
sound_of d level route loud =
    let out = sub binary32 level d.capacitor in
    let part = div binary32 out f8 in
    record {
      converter = record { capacitor = sub binary32 level (mul binary32 out keep) };
      sides =
          record {
            right = pick route.rightward (div binary32 (mul binary32 part loud.right) f5) f0;
            left = pick route.leftward (div binary32 (mul binary32 part loud.left) f5) f0;
          };
    }

unfoldable pub frame_step_by : FrameSettings → Levels → Converters → FrameStep
frame_step_by t l k =
    let p = sound_of k.pulse1 l.pulse1 t.pulse1.route t.loud in
    let q = sound_of k.pulse2 l.pulse2 t.pulse2.route t.loud in
    let w = sound_of k.wave l.wave t.wave_route t.loud in
    let n = sound_of k.noise l.noise t.noise_route t.loud in
    record {
      converters = record { pulse1 = p.converter; pulse2 = q.converter; wave = w.converter; noise = n.converter };
      mix = mixed p.sides q.sides w.sides n.sides;
    }

-- "A muted one gives 0 and its capacitor stays": what it has after a run, where it was muted from the start and where not
abbrev pub stood_of : Bool → Converter → Converter → Converter
stood_of muted before after = pick muted before after

abbrev pub stood_still : FrameSettings → Converters → Converters → Converters
stood_still t before after =
    record {
      pulse1 = stood_of t.pulse1.route.muted before.pulse1 after.pulse1;
      pulse2 = stood_of t.pulse2.route.muted before.pulse2 after.pulse2;
      wave = stood_of t.wave_route.muted before.wave after.wave;
      noise = stood_of t.noise_route.muted before.noise after.noise;
    }

-- ---- how long levels stay
-- an output stays until its timer is at 0, and where the step there changes nothing for one period more
unfoldable pub calm_by : Bool → ℕ → ℕ → ℕ
calm_by same timer reload = pick same (timer + (reload + 1)) timer

-- a pulse without a first trigger stays for ever: here, for longer than a run
unfoldable pub pulse_calm : Bool → ℕ → ℕ → PulsePhase → ℕ
pulse_calm triggered row reload m =
    let position = m.sequencer_position in
    pick triggered (calm_by (eqb (pulse_output row 1 ((position + 1) % 8)) (pulse_output row 1 position)) m.frequency_timer reload) 32767

-- a step takes bit 1 of the register to bit 0
unfoldable pub noise_calm : ℕ → NoisePhase → ℕ
noise_calm reload m =
    let register = m.feedback_shift_register in
    calm_by (eqb (noise_output 1 (register / 2)) (noise_output 1 register)) m.frequency_timer reload

-- the clocks in which no channel's output changes; the wave's timer goes two a clock
unfoldable pub calm_of : Settings → FrameSettings → Phases → ℕ
calm_of s t m =
    min
    (min
    (pulse_calm s.pulse1.first_trigger t.pulse1.row (pulse.reload_of s.pulse1) m.pulse1)
    (pulse_calm s.pulse2.first_trigger t.pulse2.row (pulse.reload_of s.pulse2) m.pulse2))
    (min (m.wave.frequency_timer / 2) (noise_calm s.noise_reload m.noise))

-- a look, and the clocks after it in which nothing changes; of a fast run none of it
unfoldable pub known_of : Bool → Settings → FrameSettings → Phases → ℕ
known_of fast s t m = pick fast 0 (calm_of s t m + 1)
