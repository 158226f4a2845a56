-- A noise channel's clocks move its register and timer by themselves, and many of them come to what the timer's law says. Assumes nothing.
use mathlib.Core.Path.{◌≡◌, refl, ap, ◌∙◌}
use mathlib.Core.Bool.{Bool}
use Prim.Native.Nat.{ℕ, suc, ◌+◌, ◌-◌, ◌≤◌}
use native.Mathlib.Omega.{arith}
use lib.Dec.{eqb, eqb-suc-zero}
use Rattle.ground.specs.Iterate.{iterate}
use Rattle.ground.specs.Timer.{counted_down}
use Rattle.ground.specs.declared.timer.CountedDown.{CountedDown}
use Rattle.ground.proofs.Cases.{pick_true, pick_false, both_ways}
use Rattle.ground.proofs.Timers.{pick_ap, ran, iterate_holds, reload_back, less_one}
use Rattle.channel_noise.specs.Noise.{Held, stepped_register, reload_of, clocked}
use Rattle.channel_noise.specs.Phase.{NoisePhaseHeld, noise_phase_of, with_noise_phase, noise_phase_clocked}
use Rattle.channel_noise.specs.declared.phase.NoisePhase.{NoisePhase}
use Rattle.channel_noise.specs.declared.noise_channel.NoiseChannel.{NoiseChannel}
use Rattle.channel_noise.proofs.Ranges.{register_le, noise_register_timer_held}
pub use Rattle.channel_noise.proofs.Ranges.{reload_most}

-- ---- the channel and what moves in it
pub noise_phase_part : (c : NoiseChannel) (h : NoisePhase)
    → clocked (with_noise_phase c h) ≡ with_noise_phase c (noise_phase_clocked c.step_mode_7_bits (reload_of c) h)
unfolding clocked reload_of noise_phase_clocked
noise_phase_part c h = pick_ap (with_noise_phase c) (eqb h.frequency_timer 0) _ _

-- ---- its ranges
pub noise_phase_of_held : (c : NoiseChannel) → Held c → NoisePhaseHeld (noise_phase_of c)
noise_phase_of_held c a = record { register = a.register; timer = a.timer }

pub with_noise_phase_held : (c : NoiseChannel) (h : NoisePhase) → Held c → NoisePhaseHeld h → Held (with_noise_phase c h)
with_noise_phase_held c h a b = noise_register_timer_held c a _ _ b.register b.timer

pub noise_phase_held : (narrow : Bool) (reload : ℕ) (h : NoisePhase) → reload ≤ 16383 → NoisePhaseHeld h → NoisePhaseHeld (noise_phase_clocked narrow reload h)
unfolding noise_phase_clocked
noise_phase_held narrow reload h k a =
    both_ways NoisePhaseHeld (eqb h.frequency_timer 0)
    (record { register = register_le h.feedback_shift_register narrow a.register; timer = k })
    (record { register = a.register; timer = omega arith })

pub noise_phases_held : (narrow : Bool) (reload n : ℕ) (h : NoisePhase) → reload ≤ 16383 → NoisePhaseHeld h
    → NoisePhaseHeld (iterate n (noise_phase_clocked narrow reload) h)
noise_phases_held narrow reload n h k a =
    iterate_holds NoisePhaseHeld (noise_phase_clocked narrow reload) (λ x b. noise_phase_held narrow reload x k b) n h a

-- ---- n clocks of it, by the timer's law
-- its timer and its register
abbrev pub noise_phase_at : ℕ → ℕ → NoisePhase
noise_phase_at timer register = record { feedback_shift_register = register; frequency_timer = timer }

module _ (narrow : Bool) (reload : ℕ) where
  fires : (x : ℕ) → noise_phase_clocked narrow reload (noise_phase_at 0 x) ≡ noise_phase_at (reload + 1 - 1) (stepped_register x narrow)
  unfolding noise_phase_clocked
  fires x = pick_true _ _ _ refl ∙ ap (λ (t : ℕ). noise_phase_at t (stepped_register x narrow)) (reload_back reload)

  falls : (t x : ℕ) → noise_phase_clocked narrow reload (noise_phase_at (suc t) x) ≡ noise_phase_at t x
  unfolding noise_phase_clocked
  falls t x = pick_false _ _ _ (eqb-suc-zero t) ∙ ap (λ (y : ℕ). noise_phase_at y x) (less_one t)

  pub noise_phase_ran : (h : NoisePhase) (n : ℕ) (run : CountedDown) → run ≡ counted_down h.frequency_timer (reload + 1) n
      → noise_phase_at run.timer (iterate run.steps (λ (x : ℕ). stepped_register x narrow) h.feedback_shift_register)
      ≡ iterate n (noise_phase_clocked narrow reload) h
  noise_phase_ran h n run e =
      let step : ℕ → ℕ = λ (x : ℕ). stepped_register x narrow in
      ran noise_phase_at (noise_phase_clocked narrow reload) step reload fires falls n h.frequency_timer h.feedback_shift_register run e
