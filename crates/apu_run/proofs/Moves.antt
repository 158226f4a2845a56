-- Many clocks of what moves are each part's own, and keep its ranges. Assumes nothing.
use mathlib.Core.Path.{◌≡◌, refl, sym, ap, ◌∙◌}
use mathlib.Core.Bool.{true, false}
use Prim.Native.Nat.{ℕ, zero, suc, ◌-◌, ◌≤◌}
use native.Mathlib.Omega.{arith}
use Rattle.ground.specs.Iterate.{iterate}
use Rattle.ground.proofs.Cases.{pick_true, pick_false, pick_holds}
use Rattle.ground.proofs.Timers.{iterate_holds}
use Rattle.channel_pulse.specs.Pulse as pulse
use Rattle.channel_pulse.specs.Phase.{pulse_phase_clocked}
use Rattle.channel_pulse.proofs.Phases as tones
use Rattle.channel_wave.specs.Wave as wave
use Rattle.channel_wave.specs.Phase.{wave_phase_clocked}
use Rattle.channel_wave.proofs.Phases as swings
use Rattle.channel_noise.specs.Phase.{noise_phase_clocked}
use Rattle.channel_noise.proofs.Phases as hisses
use Rattle.apu.specs.Held.{Held, FloatsHeld}
use Rattle.apu.specs.declared.Apu.{Apu}
use Rattle.apu_run.specs.Phases.{SettingsHeld, PhasesHeld, ConvertersHeld, settings_of, phases_of, converters_of, phases_clocked}
use Rattle.apu_run.specs.declared.phases.Phases.{Phases}
use Rattle.apu_run.specs.declared.phases.Settings.{Settings}

module _ (s : Settings) where
  -- with power on, each part by itself
  pub moves : (n : ℕ) (m : Phases) → s.power ≡ true
      → record {
        pulse1 = iterate n (pulse_phase_clocked s.pulse1.first_trigger (pulse.reload_of s.pulse1)) m.pulse1;
        pulse2 = iterate n (pulse_phase_clocked s.pulse2.first_trigger (pulse.reload_of s.pulse2)) m.pulse2;
        wave = iterate n (wave_phase_clocked (wave.reload_of s.wave)) m.wave;
        noise = iterate n (noise_phase_clocked s.noise.step_mode_7_bits s.noise_reload) m.noise;
      }
      ≡ iterate n (phases_clocked s) m
  unfolding iterate phases_clocked
  moves zero m on = refl
  moves (suc n) m on = moves n _ on ∙ ap (iterate n (phases_clocked s)) (sym (pick_true s.power _ m on))

  -- with power off, nothing
  pub stands : (n : ℕ) (m : Phases) → s.power ≡ false → iterate n (phases_clocked s) m ≡ m
  unfolding iterate phases_clocked
  stands zero m off = refl
  stands (suc n) m off = ap (iterate n (phases_clocked s)) (pick_false s.power _ m off) ∙ stands n m off

  small : (f : ℕ) → 2047 - f ≤ 2047
  small f = omega arith

  move_held : SettingsHeld s → (m : Phases) → PhasesHeld m → PhasesHeld (phases_clocked s m)
  unfolding phases_clocked
  move_held h m k =
      pick_holds PhasesHeld s.power _ m
      (λ _. record {
        pulse1 = tones.pulse_phase_held _ _ m.pulse1 (small s.pulse1.frequency) k.pulse1;
        pulse2 = tones.pulse_phase_held _ _ m.pulse2 (small s.pulse2.frequency) k.pulse2;
        wave = swings.wave_phase_held _ m.wave (small s.wave.frequency) k.wave;
        noise = hisses.noise_phase_held _ _ m.noise h.reload k.noise;
      })
      (λ _. k)

  pub moves_held : SettingsHeld s → (n : ℕ) (m : Phases) → PhasesHeld m → PhasesHeld (iterate n (phases_clocked s) m)
  moves_held h n m k = iterate_holds PhasesHeld (phases_clocked s) (move_held h) n m k

-- the ranges of the unit's own
pub settings_held : (a : Apu) → Held a → SettingsHeld (settings_of a)
settings_held a h =
    record {
      pulse1 = h.pulse1.channel;
      pulse2 = h.pulse2.channel;
      wave = h.wave.channel;
      noise = h.noise.channel;
      reload = hisses.reload_most a.noise.channel;
    }

pub phases_held : (a : Apu) → Held a → PhasesHeld (phases_of a)
phases_held a h =
    record {
      pulse1 = tones.own_held _ h.pulse1.channel;
      pulse2 = tones.own_held _ h.pulse2.channel;
      wave = swings.own_held _ h.wave.channel;
      noise = hisses.noise_phase_of_held _ h.noise.channel;
    }

pub converters_held : (a : Apu) → FloatsHeld a → ConvertersHeld (converters_of a)
converters_held a h = record { pulse1 = h.pulse1; pulse2 = h.pulse2; wave = h.wave; noise = h.noise }
