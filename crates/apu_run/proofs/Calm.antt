-- While no channel steps, or steps once to the same output, what goes into the converters stays. Assumes nothing.
use Prim.Native.Nat.{ℕ, zero, suc, min, ◌+◌, ◌-◌, ◌*◌, ◌/◌, ◌%◌, ◌≤◌, ◌<◌}
use mathlib.Core.Path.{◌≡◌, refl, sym, ap, ◌∙◌}
use mathlib.Core.Bool.{Bool, true, false}
use mathlib.Core.Logic.{◌⊎◌, inl, inr}
use mathlib.Core.List.{List}
use native.Mathlib.Nat.{le_trans}
use native.Mathlib.Omega.{arith}
use Rattle.std.proofs.Math.Nat.{min-le_left, min-le_right}
use borrow.Author.Tests.{eqb-true, ltb-true, ltb-false}
use lib.Dec.{eqb, ltb}
use Rattle.ground.specs.Pick.{pick}
use Rattle.ground.specs.Iterate.{iterate}
use Rattle.ground.proofs.Timers.{run_still, run_near}
use Rattle.channel_pulse.specs.Pulse as pulse
use Rattle.channel_pulse.specs.Phase.{PulsePhaseHeld, pulse_phase_clocked}
use Rattle.channel_pulse.specs.declared.phase.PulsePhase.{PulsePhase}
use Rattle.channel_pulse.proofs.Phases.{pulse_phase_ran, pulse_phase_stands}
use Rattle.channel_wave.specs.Phase.{WavePhaseHeld, wave_phase_clocked}
use Rattle.channel_wave.specs.declared.phase.WavePhase.{WavePhase}
use Rattle.channel_wave.proofs.Phases.{wave_phase_ran}
use Rattle.channel_noise.specs.Phase.{NoisePhaseHeld, noise_phase_clocked}
use Rattle.channel_noise.specs.Noise.{stepped_register, feedback_of}
use Rattle.channel_noise.specs.declared.phase.NoisePhase.{NoisePhase}
use Rattle.channel_noise.proofs.Phases.{noise_phase_ran}
use Rattle.channel_noise.proofs.Steps.{stepped_by, one_step}
use Rattle.apu_run.specs.Phases.{PhasesHeld, phases_clocked}
use Rattle.apu_run.specs.FrameSettings.{pulse_output, noise_output, levels_of, calm_by, pulse_calm, noise_calm, calm_of}
use Rattle.apu_run.specs.declared.phases.Phases.{Phases}
use Rattle.apu_run.specs.declared.phases.Settings.{Settings}
use Rattle.apu_run.specs.declared.frame_settings.FrameSettings.{FrameSettings}
use Rattle.apu_run.proofs.Moves.{moves, stands}

-- ---- no step, or one that changes nothing
stays : (same : Bool) (t r n : ℕ) → n ≤ calm_by same t r → (n ≤ t) ⊎ ((t < n) × ((n ≤ t + (r + 1)) × (same ≡ true)))
unfolding calm_by pick
stays false t r n h = inl h
stays true t r n h = go (ltb t n) refl
  where
    go : (b : Bool) → ltb t n ≡ b → (n ≤ t) ⊎ ((t < n) × ((n ≤ t + (r + 1)) × (◌≡◌ {A = Bool} true true)))
    go true e = inr (ltb-true t n e, (h, refl))
    go false e = inl (ltb-false t n e)

-- ---- each channel by itself
module _ (row v r n : ℕ) (a : PulsePhase) (h : PulsePhaseHeld a) where
  abbrev place : ℕ
  place = a.sequencer_position

  abbrev ends : ℕ
  ends = (iterate n (pulse_phase_clocked true r) a).sequencer_position

  loudly : (x y : ℕ) → pulse_output row 1 x ≡ pulse_output row 1 y → pulse_output row v x ≡ pulse_output row v y
  unfolding pulse_output
  loudly x y e = ap (λ (b : ℕ). b * v) (alone _ _ e)
    where
      alone : (a b : ℕ) → a * 1 ≡ b * 1 → a ≡ b
      alone a b e = omega arith

  still : n ≤ a.frequency_timer → ends ≡ place
  still l =
      ap (λ (x : PulsePhase). x.sequencer_position) (sym (pulse_phase_ran a r n _ h (sym (run_still a.frequency_timer (r + 1) n l))))
      ∙ within place h.position
    where
      within : (x : ℕ) → x ≤ 7 → (x + 0) % 8 ≡ x
      within x h = omega arith

  once : a.frequency_timer < n → n ≤ a.frequency_timer + (r + 1) → ends ≡ (place + 1) % 8
  once l k =
      ap (λ (x : PulsePhase). x.sequencer_position)
      (sym (pulse_phase_ran a r n _ h (run_near a.frequency_timer (r + 1) n 1 (r + 1) k (inl (l, refl)) (inl (l, refl)))))

  pulse_one : (same : Bool) → eqb (pulse_output row 1 ((place + 1) % 8)) (pulse_output row 1 place) ≡ same
      → n ≤ calm_by same a.frequency_timer r → pulse_output row v ends ≡ pulse_output row v place
  pulse_one same e l = go (stays same _ r n l)
    where
      go : (n ≤ a.frequency_timer) ⊎ ((a.frequency_timer < n) × ((n ≤ a.frequency_timer + (r + 1)) × (same ≡ true)))
          → pulse_output row v ends ≡ pulse_output row v place
      go (inl l) = ap (pulse_output row v) (still l)
      go (inr k) = ap (pulse_output row v) (once k.0 k.1.0) ∙ loudly _ place (eqb-true _ _ (e ∙ k.1.1))

pulse_same : (triggered : Bool) (row v r n : ℕ) (a : PulsePhase) → PulsePhaseHeld a → n ≤ pulse_calm triggered row r a
    → pulse_output row v (iterate n (pulse_phase_clocked triggered r) a).sequencer_position ≡ pulse_output row v a.sequencer_position
unfolding pulse_calm pick
pulse_same true row v r n a h l = pulse_one row v r n a h _ refl l
pulse_same false row v r n a h l = ap (λ (x : PulsePhase). pulse_output row v x.sequencer_position) (pulse_phase_stands r n a)

wave_same : (r n : ℕ) (a : WavePhase) → WavePhaseHeld a → n ≤ a.frequency_timer / 2
    → (iterate n (wave_phase_clocked r) a).buffer_position ≡ a.buffer_position
unfolding iterate
wave_same r zero a h l = refl
wave_same r (suc n) a h l =
    let twice : suc n * 2 ≤ a.frequency_timer = omega arith in
    let still = sym (run_still a.frequency_timer (r + 1) (suc n * 2) twice) in
    ap (λ (x : WavePhase). x.buffer_position) (sym (wave_phase_ran r a (suc n) _ h (never n) still))
    ∙ within a.buffer_position h.position
  where
    never : (n : ℕ) → suc n ≡ 0 → ⊥
    never n e = omega arith

    within : (x : ℕ) → x ≤ 31 → (x + 0) % 32 ≡ x
    within x h = omega arith

-- a step takes bit 1 to bit 0
low_next : (narrow : Bool) (x r : ℕ) → stepped_by narrow x r % 2 ≡ r / 2 % 2
low_next true x r = omega arith
low_next false x r = omega arith

module _ (narrow : Bool) (v r n : ℕ) (a : NoisePhase) (h : NoisePhaseHeld a) where
  abbrev register : ℕ
  register = a.feedback_shift_register

  abbrev came : ℕ
  came = (iterate n (noise_phase_clocked narrow r) a).feedback_shift_register

  noise_still : n ≤ a.frequency_timer → came ≡ register
  noise_still l =
      ap (λ (x : NoisePhase). x.feedback_shift_register) (sym (noise_phase_ran narrow r a n _ (sym (run_still a.frequency_timer (r + 1) n l))))
      ∙ unfold iterate in refl

  noise_once : a.frequency_timer < n → n ≤ a.frequency_timer + (r + 1) → came ≡ stepped_register register narrow
  noise_once l k =
      ap (λ (x : NoisePhase). x.feedback_shift_register)
      (sym (noise_phase_ran narrow r a n _ (run_near a.frequency_timer (r + 1) n 1 (r + 1) k (inl (l, refl)) (inl (l, refl)))))
      ∙ unfold iterate in refl

  bit_next : stepped_register register narrow % 2 ≡ register / 2 % 2
  bit_next = ap (λ (x : ℕ). x % 2) (one_step narrow register h.register) ∙ low_next narrow (feedback_of register) register

  bits : (x y z : ℕ) → x % 2 ≡ y % 2 → (1 - y % 2) * 1 ≡ (1 - z % 2) * 1 → (1 - x % 2) * v ≡ (1 - z % 2) * v
  bits x y z e f = ap (λ (b : ℕ). b * v) (alike x y z e f)
    where
      alike : (x y z : ℕ) → x % 2 ≡ y % 2 → (1 - y % 2) * 1 ≡ (1 - z % 2) * 1 → 1 - x % 2 ≡ 1 - z % 2
      alike x y z e f = omega arith

  noise_one : (same : Bool) → eqb (noise_output 1 (register / 2)) (noise_output 1 register) ≡ same
      → n ≤ calm_by same a.frequency_timer r → noise_output v came ≡ noise_output v register
  noise_one same e l = go (stays same _ r n l)
    where
      go : (n ≤ a.frequency_timer) ⊎ ((a.frequency_timer < n) × ((n ≤ a.frequency_timer + (r + 1)) × (same ≡ true)))
          → noise_output v came ≡ noise_output v register
      go (inl l) = ap (noise_output v) (noise_still l)
      go (inr k) = ap (noise_output v) (noise_once k.0 k.1.0) ∙ bits _ (register / 2) register bit_next (eqb-true _ _ (e ∙ k.1.1))

noise_same : (narrow : Bool) (v r n : ℕ) (a : NoisePhase) → NoisePhaseHeld a → n ≤ noise_calm r a
    → noise_output v (iterate n (noise_phase_clocked narrow r) a).feedback_shift_register ≡ noise_output v a.feedback_shift_register
unfolding noise_calm
noise_same narrow v r n a h l = noise_one narrow v r n a h _ refl l

-- ---- THE LAW
module _ (s : Settings) (t : FrameSettings) (m : Phases) where
  abbrev pulses : ℕ
  pulses =
      min (pulse_calm s.pulse1.first_trigger t.pulse1.row (pulse.reload_of s.pulse1) m.pulse1)
      (pulse_calm s.pulse2.first_trigger t.pulse2.row (pulse.reload_of s.pulse2) m.pulse2)

  abbrev others : ℕ
  others = min (m.wave.frequency_timer / 2) (noise_calm s.noise_reload m.noise)

  is_calm : calm_of s t m ≡ min pulses others
  unfolding calm_of
  is_calm = refl

  module _ (ram : List ℕ) (h : PhasesHeld m) where
    pub calm_levels : (n : ℕ) → n ≤ calm_of s t m → levels_of t (iterate n (phases_clocked s) m) ram ≡ levels_of t m ram
    calm_levels n l = go s.power refl
      where
        go : (on : Bool) → s.power ≡ on → levels_of t (iterate n (phases_clocked s) m) ram ≡ levels_of t m ram
        go false e = ap (λ (x : Phases). levels_of t x ram) (stands s n m e)
        go true e =
            let few : n ≤ min pulses others = rw is_calm at l in
            let tones = le_trans few (min-le_left pulses others) in
            let rest = le_trans few (min-le_right pulses others) in
            ap (λ (x : Phases). levels_of t x ram) (sym (moves s n m e))
            ∙ unfold levels_of in
            rw (
              pulse_same s.pulse1.first_trigger t.pulse1.row t.pulse1.volume _ n m.pulse1 h.pulse1 (le_trans tones (min-le_left _ _)),
              pulse_same s.pulse2.first_trigger t.pulse2.row t.pulse2.volume _ n m.pulse2 h.pulse2 (le_trans tones (min-le_right _ _)),
              wave_same _ n m.wave h.wave (le_trans rest (min-le_left _ _)),
              noise_same _ t.noise_volume _ n m.noise h.noise (le_trans rest (min-le_right _ _)),
            )

  -- and they stay no longer than a run may be: the wave's timer is short
  pub calm_few : PhasesHeld m → calm_of s t m ≤ 16383
  calm_few h =
      let most = h.wave.timer in
      let half : m.wave.frequency_timer / 2 ≤ 16383 = omega (arith, most) in
      rw is_calm (le_trans (min-le_right pulses others) (le_trans (min-le_left _ _) half))
