-- A run by what it moves alone: a working clock on a unit whose parts were put back moves those parts, and nothing else. Assumes nothing.
use mathlib.Core.Path.{◌≡◌, refl, ap, ◌∙◌}
use mathlib.Core.Bool.{Bool, true, false}
use mathlib.Core.List.{List, [], ◌++◌, append-nil}
use Prim.Native.Nat.{ℕ}
use lib.Ieee.{Float}
use Rattle.ground.specs.Pick.{pick}
use Rattle.ground.specs.Iterate.{iterate}
use Rattle.ground.proofs.Timers.{pick_ap, iterate_part}
use Rattle.clocks.specs.Counter.{every_at, tick_by}
use Rattle.frame.specs.declared.converter.Converter.{Converter}
use Rattle.channel_pulse.specs.Pulse as pulse_channel
use Rattle.channel_pulse.specs.Phase.{pulse_phase_clocked}
use Rattle.channel_pulse.proofs.Phases.{pulse_phase_part}
use Rattle.channel_pulse.specs.declared.phase.PulsePhase.{PulsePhase}
use Rattle.channel_wave.specs.Wave as wave_channel
use Rattle.channel_wave.specs.Phase.{wave_phase_clocked}
use Rattle.channel_wave.proofs.Phases.{wave_phase_part}
use Rattle.channel_wave.specs.declared.phase.WavePhase.{WavePhase}
use Rattle.channel_noise.specs.Noise as noise_channel
use Rattle.channel_noise.specs.Phase.{noise_phase_clocked}
use Rattle.channel_noise.proofs.Phases.{noise_phase_part}
use Rattle.channel_noise.specs.declared.phase.NoisePhase.{NoisePhase}
use Rattle.channel_groups.specs.Groups as any
use Rattle.channel_groups.specs.PulseGroups as pulse
use Rattle.channel_groups.specs.WaveGroups as wave
use Rattle.channel_groups.specs.NoiseGroups as noise
use Rattle.channel_groups.specs.PulseGroups.{PulseGroup}
use Rattle.channel_groups.specs.WaveGroups.{WaveGroup}
use Rattle.channel_groups.specs.NoiseGroups.{NoiseGroup}
use Rattle.log_items.specs.Items.{mix_item}
use Rattle.apu.specs.With.{with_clocks}
use Rattle.apu.specs.declared.Apu.{Apu}
use Rattle.apu_clock.specs.Clocking.{pushed}
use Rattle.apu_clock.specs.Sequencer.{channels_clocked}
use Rattle.apu_clock.specs.declared.clock.Framed.{Framed}
use Rattle.apu_run.specs.Working.{passing, working, working_bytes, Take, working_on}
use Rattle.apu_run.specs.Phases.{settings_of, phases_clocked, pulse_with, wave_with, noise_with, put_back}
use Rattle.apu_run.specs.FrameStep.{frame_step_of}
use Rattle.apu_run.specs.declared.phases.Phases.{Phases}
use Rattle.apu_run.specs.declared.phases.Settings.{Settings}
use Rattle.apu_run.specs.declared.phases.Converters.{Converters}

-- ---- a run by itself: what moves and the bytes that it has made, and with the sample counter a point of it
abbrev pub Rest : Type 0
Rest = Phases × Converters × List ℕ

abbrev pub Point : Type 0
Point = Float × Rest

abbrev made : Float → Bool
made c = (tick_by (every_at 44100) c).made

abbrev next : Float → Float
next c = (tick_by (every_at 44100) c).counter

module _ (s : Settings) where
  abbrev pub rest_clock : Rest → Rest
  rest_clock a = (phases_clocked s a.0, a.1, a.2)

  abbrev pub rest_frame : Rest → Rest
  rest_frame a = let f = frame_step_of s a.0 a.1 in (a.0, f.converters, a.2 ++ mix_item f.mix)

  -- a working clock: the counter, the frame where one is made, the channels
  abbrev pub point_clock : Point → Point
  point_clock p = (next p.0, rest_clock (pick (made p.0) (rest_frame p.1) p.1))

-- a point's unit, with the bytes
abbrev pub take_at : Apu → Point → Take
take_at u p = record { apu = put_back u p.1.0 p.1.1 p.0; bytes = p.1.2 }

-- ---- the channels
pulse_part : (g : PulseGroup) (d : Converter) (t : PulsePhase)
    → pulse.clocked (pulse_with g d t) ≡ pulse_with g d (pulse_phase_clocked g.channel.first_trigger (pulse_channel.reload_of g.channel) t)
unfolding any.clocked
pulse_part g d t = ap (pulse.with_channel (pulse_with g d t)) (pulse_phase_part g.channel t)

wave_part : (g : WaveGroup) (d : Converter) (t : WavePhase)
    → wave.clocked (wave_with g d t) ≡ wave_with g d (wave_phase_clocked (wave_channel.reload_of g.channel) t)
unfolding any.clocked
wave_part g d t = ap (wave.with_channel (wave_with g d t)) (wave_phase_part g.channel t)

noise_part : (g : NoiseGroup) (d : Converter) (t : NoisePhase)
    → noise.clocked (noise_with g d t) ≡ noise_with g d (noise_phase_clocked g.channel.step_mode_7_bits (noise_channel.reload_of g.channel) t)
unfolding any.clocked
noise_part g d t = ap (noise.with_channel (noise_with g d t)) (noise_phase_part g.channel t)

module _ (u : Apu) where
  clocked_part : (m : Phases) (k : Converters) (c : Float)
      → channels_clocked (put_back u m k c)
      ≡ put_back u
      (record {
        pulse1 = pulse_phase_clocked u.pulse1.channel.first_trigger (pulse_channel.reload_of u.pulse1.channel) m.pulse1;
        pulse2 = pulse_phase_clocked u.pulse2.channel.first_trigger (pulse_channel.reload_of u.pulse2.channel) m.pulse2;
        wave = wave_phase_clocked (wave_channel.reload_of u.wave.channel) m.wave;
        noise = noise_phase_clocked u.noise.channel.step_mode_7_bits (noise_channel.reload_of u.noise.channel) m.noise;
      })
      k c
  unfolding channels_clocked
  clocked_part m k c =
      rw (
        pulse_part u.pulse1 k.pulse1 m.pulse1,
        pulse_part u.pulse2 k.pulse2 m.pulse2,
        wave_part u.wave k.wave m.wave,
        noise_part u.noise k.noise m.noise,
      )

  move_part : (m : Phases) (k : Converters) (c : Float) → passing (put_back u m k c) ≡ put_back u (phases_clocked (settings_of u) m) k c
  unfolding passing phases_clocked
  move_part m k c =
      ap (λ (x : Apu). pick u.power x (put_back u m k c)) (clocked_part m k c) ∙ pick_ap (λ (n : Phases). put_back u n k c) u.power _ m

  -- ---- a frame
  push_part : (m : Phases) (k : Converters) (c : Float) → let s = frame_step_of (settings_of u) m k in
      ◌≡◌ {A = Framed} (pushed (put_back u m k c)) (record { apu = put_back u m s.converters c; mix = s.mix })
  unfolding pushed any.sounded frame_step_of
  push_part m k c = refl

  -- ---- a working clock on a unit whose parts were put back moves those parts
  abbrev one : Float → Rest → Framed → Bool → Take
  one c a f b =
      record {
        apu = passing (with_clocks (pick b f.apu (put_back u a.0 a.1 c)) (next c) u.clocks_counter);
        bytes = a.2 ++ pick b (mix_item f.mix) [];
      }

  by_frame : (c : Float) (a : Rest) (b : Bool)
      → one c a (pushed (put_back u a.0 a.1 c)) b ≡ take_at u (next c, rest_clock (settings_of u) (pick b (rest_frame (settings_of u) a) a))
  unfolding pick
  by_frame c a true =
      let s = frame_step_of (settings_of u) a.0 a.1 in
      ap (λ (f : Framed). one c a f true) (push_part a.0 a.1 c)
      ∙ ap (λ (x : Apu). record { apu = x; bytes = a.2 ++ mix_item s.mix }) (move_part a.0 s.converters (next c))
  by_frame c a false =
      ap (λ (x : Apu). record { apu = x; bytes = a.2 ++ [] }) (move_part a.0 a.1 (next c))
      ∙ ap (λ (l : List ℕ). take_at u (next c, (phases_clocked (settings_of u) a.0, a.1, l))) (append-nil a.2)

  works : (p : Point) → working_on (take_at u p) ≡ take_at u (point_clock (settings_of u) p)
  unfolding working_on working working_bytes
  works p = by_frame p.0 p.1 (made p.0)

  -- and so do many
  pub ran_at : (n : ℕ) (p : Point) → iterate n working_on (take_at u p) ≡ take_at u (iterate n (point_clock (settings_of u)) p)
  ran_at n p = iterate_part (take_at u) working_on (point_clock (settings_of u)) works n p
