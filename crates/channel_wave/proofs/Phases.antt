-- Many clocks of what the wave's clocks move, by the law of the timer; and the channel's own clock moves nothing else. Assumes nothing.
use mathlib.Core.Path.{◌≡◌, refl, sym, ap, ◌∙◌}
use mathlib.Core.Bool.{Bool, true, false, not, ◌&&◌}
use Prim.Native.Nat.{ℕ, zero, suc, ◌+◌, ◌-◌, ◌*◌, ◌/◌, ◌%◌, ◌≤◌, ◌<◌}
use native.Mathlib.Nat.{mod-lt}
use native.Mathlib.Numerals.{add-one}
use native.Mathlib.Omega.{arith}
use lib.Dec.{T, leb, eqb, leb→le, nleb→lt, eqb-suc-zero}
use borrow.Author.Tests.{eqb-true, eqb-false, eq-eqb, ne_eqb}
use Rattle.ground.specs.Iterate.{iterate}
use Rattle.ground.specs.Timer.{counted_down}
use Rattle.ground.specs.declared.timer.CountedDown.{CountedDown}
use Rattle.ground.proofs.Cases.{pick_true, pick_false, both_ways}
use Rattle.ground.proofs.Timers.{iterate_twice, iterate_part, iterate_holds, turns, settled, settled_some, up_to, beyond, run_still, run_more}
use Rattle.ground.proofs.Timers.{pick_ap, reload_back, less_one}
use Rattle.channel_wave.specs.Wave.{Held, reload_of, timer_clocked, clocked}
use Rattle.channel_wave.specs.Phase.{WavePhaseHeld, wave_phase_of, with_wave_phase, phase_timer_clocked, wave_phase_clocked}
use Rattle.channel_wave.specs.declared.phase.WavePhase.{WavePhase}
use Rattle.channel_wave.specs.declared.wave_channel.WaveChannel.{WaveChannel}

-- the rest of a wave: its position and whether it was just clocked
abbrev wave_phase_at : ℕ → ℕ × Bool → WavePhase
wave_phase_at t a = record { buffer_position = a.0; buffer_position_just_clocked = a.1; frequency_timer = t }

abbrev wave_phase_step : ℕ × Bool → ℕ × Bool
wave_phase_step a = ((a.0 + 1) % 32, true)

abbrev wave_phase_idle : ℕ × Bool → ℕ × Bool
wave_phase_idle a = (a.0, false)

clocked_turns : (x k : ℕ) → iterate k wave_phase_step (x % 32, true) ≡ ((x + k) % 32, true)
clocked_turns x k =
    let just : ℕ → ℕ × Bool = λ (y : ℕ). (y, true) in
    iterate_part just wave_phase_step (λ (y : ℕ). (y + 1) % 32) (λ y. refl) k (x % 32) ∙ ap just (turns 32 x k)

steps_of : (a : ℕ × Bool) (k : ℕ) → iterate (k + 1) wave_phase_step a ≡ ((a.0 + (k + 1)) % 32, true)
unfolding iterate
steps_of a k =
    ap (λ (j : ℕ). iterate j wave_phase_step a) (add-one k) ∙ clocked_turns (a.0 + 1) k ∙ ap (λ (y : ℕ). (y % 32, true)) (regroup a.0 k)
  where
    regroup : (x k : ℕ) → x + 1 + k ≡ x + (k + 1)
    regroup x k = omega arith

-- idle for r clocks since the step
settled_flag : (r x : ℕ) → settled wave_phase_idle r (x, true) ≡ (x, eqb r 0)
settled_flag zero x = refl
settled_flag (suc r) x = ap (λ (b : Bool). (x, b)) (sym (eqb-suc-zero r))

same_test : (a b c d : ℕ) → (a ≡ b → c ≡ d) → (c ≡ d → a ≡ b) → eqb a b ≡ eqb c d
same_test a b c d f g = go (eqb a b) (eqb-true a b) (eqb-false a b)
  where
    go : (t : Bool) → (t ≡ true → a ≡ b) → (t ≡ false → a ≡ b → ⊥) → t ≡ eqb c d
    go true h k = sym (eq-eqb c d (f (h refl)))
    go false h k = sym (ne_eqb c d (λ e. k refl (g e)))

module _ (reload : ℕ) where
  fires : (a : ℕ × Bool) → phase_timer_clocked reload (wave_phase_at 0 a) ≡ wave_phase_at (reload + 1 - 1) (wave_phase_step a)
  unfolding phase_timer_clocked
  fires a = pick_true _ _ _ refl ∙ ap (λ (t : ℕ). wave_phase_at t (wave_phase_step a)) (reload_back reload)

  falls : (t : ℕ) (a : ℕ × Bool) → phase_timer_clocked reload (wave_phase_at (suc t) a) ≡ wave_phase_at t (wave_phase_idle a)
  unfolding phase_timer_clocked
  falls t a = pick_false _ _ _ (eqb-suc-zero t) ∙ ap (λ (x : ℕ). wave_phase_at x (wave_phase_idle a)) (less_one t)

  some : 0 < reload + 1
  some = omega arith

  -- what the code makes of a run
  abbrev result : WavePhase → CountedDown → WavePhase
  result w r = record {
    buffer_position = (w.buffer_position + r.steps) % 32;
    buffer_position_just_clocked = not (eqb r.steps 0) && eqb r.timer reload;
    frequency_timer = r.timer;
  }

  -- the laws of the timer at the wave's clock
  no_step : (n t : ℕ) (a : ℕ × Bool) → n ≤ t → iterate n (phase_timer_clocked reload) (wave_phase_at t a) ≡ wave_phase_at (t - n) (settled wave_phase_idle n a)
  no_step = up_to wave_phase_at (phase_timer_clocked reload) wave_phase_step wave_phase_idle (reload + 1) some fires falls (λ x. refl) (λ x. refl)

  some_steps : (n t : ℕ) (a : ℕ × Bool) → t < n
      → let period = reload + 1 in
      let m = n - t - 1 in
      iterate n (phase_timer_clocked reload) (wave_phase_at t a)
      ≡ wave_phase_at (period - 1 - m % period) (settled wave_phase_idle (m % period) (iterate (m / period + 1) wave_phase_step a))
  some_steps = beyond wave_phase_at (phase_timer_clocked reload) wave_phase_step wave_phase_idle (reload + 1) some fires falls (λ x. refl) (λ x. refl)

  halves_ran : (w : WavePhase) (n : ℕ) (r : CountedDown) → WavePhaseHeld w → 0 < n → r ≡ counted_down w.frequency_timer (reload + 1) n
      → result w r ≡ iterate n (phase_timer_clocked reload) w
  halves_ran w n r h pos e = go (leb n w.frequency_timer) (leb→le n w.frequency_timer) (nleb→lt n w.frequency_timer)
    where
      stays : (x : ℕ) → x ≤ 31 → (x + 0) % 32 ≡ x
      stays x h = omega arith

      reloaded : (r p : ℕ) → p + 1 - 1 - r ≡ p → r < p + 1 → r ≡ 0
      reloaded r p e l = omega arith

      reloads : (r p : ℕ) → r ≡ 0 → p + 1 - 1 - r ≡ p
      reloads r p e = omega arith

      never : (q : ℕ) → q + 1 ≡ 0 → ⊥
      never q e = omega arith

      go : (b : Bool) → (T b → n ≤ w.frequency_timer) → (T (not b) → w.frequency_timer < n) → result w r ≡ iterate n (phase_timer_clocked reload) w
      go true g l =
          let rest : ℕ × Bool = (w.buffer_position, w.buffer_position_just_clocked) in
          ap (result w) (e ∙ run_still w.frequency_timer (reload + 1) n (g tt))
          ∙ ap (λ (x : ℕ). wave_phase_at (w.frequency_timer - n) (x, false)) (stays w.buffer_position h.position)
          ∙ ap (wave_phase_at (w.frequency_timer - n)) (sym (settled_some wave_phase_idle n rest pos))
          ∙ sym (no_step n w.frequency_timer rest (g tt))
      go false g l =
          let rest : ℕ × Bool = (w.buffer_position, w.buffer_position_just_clocked) in
          let m = n - w.frequency_timer - 1 in
          let period = reload + 1 in
          let q = m / period in
          let place = (w.buffer_position + (q + 1)) % 32 in
          let t = period - 1 - m % period in
          let left : m % period < period = mod-lt m some in
          let just = same_test (m % period) 0 t reload (reloads (m % period) reload) (λ x. reloaded (m % period) reload x left) in
          let stepped = ap (settled wave_phase_idle (m % period)) (steps_of rest q) ∙ settled_flag (m % period) place in
          ap (result w) (e ∙ run_more w.frequency_timer period n (l tt))
          ∙ ap (λ (b : Bool). wave_phase_at t (place, not b && eqb t reload)) (ne_eqb (q + 1) 0 (never q))
          ∙ ap (λ (b : Bool). wave_phase_at t (place, b)) (sym just)
          ∙ ap (wave_phase_at t) (sym stepped)
          ∙ sym (some_steps n w.frequency_timer rest (l tt))

  pub wave_phase_ran : (w : WavePhase) (n : ℕ) (r : CountedDown) → WavePhaseHeld w → (n ≡ 0 → ⊥)
      → r ≡ counted_down w.frequency_timer (reload + 1) (n * 2) → result w r ≡ iterate n (wave_phase_clocked reload) w
  unfolding wave_phase_clocked
  wave_phase_ran w n r h pos e = halves_ran w (n * 2) r h (twice n pos) e ∙ sym (iterate_twice n (phase_timer_clocked reload) w)
    where
      twice : (n : ℕ) → (n ≡ 0 → ⊥) → 0 < n * 2
      twice n h = omega arith

pub wave_phase_none : (reload : ℕ) (w : WavePhase) → w ≡ iterate 0 (wave_phase_clocked reload) w
unfolding iterate
wave_phase_none reload w = refl

-- ---- the channel's clock
half_part : (w : WaveChannel) (s : WavePhase) → timer_clocked (with_wave_phase w s) ≡ with_wave_phase w (phase_timer_clocked (reload_of w) s)
unfolding timer_clocked phase_timer_clocked
half_part w s = pick_ap (with_wave_phase w) (eqb s.frequency_timer 0) _ _

pub wave_phase_part : (w : WaveChannel) (s : WavePhase) → clocked (with_wave_phase w s) ≡ with_wave_phase w (wave_phase_clocked (reload_of w) s)
unfolding clocked wave_phase_clocked
wave_phase_part w s = ap timer_clocked (half_part w s) ∙ half_part w (phase_timer_clocked (reload_of w) s)

-- ---- the ranges
half_held : (r : ℕ) (a : WavePhase) → r ≤ 2047 → WavePhaseHeld a → WavePhaseHeld (phase_timer_clocked r a)
unfolding phase_timer_clocked
half_held r a l h =
    both_ways WavePhaseHeld (eqb a.frequency_timer 0)
    (record { position = within a.buffer_position; timer = omega arith })
    (record { position = h.position; timer = omega (arith, h.timer) })
  where
    within : (x : ℕ) → (x + 1) % 32 ≤ 31
    within x = omega arith

pub wave_phase_held : (r : ℕ) (a : WavePhase) → r ≤ 2047 → WavePhaseHeld a → WavePhaseHeld (wave_phase_clocked r a)
unfolding wave_phase_clocked
wave_phase_held r a l h = half_held r (phase_timer_clocked r a) l (half_held r a l h)

pub wave_phases_held : (r n : ℕ) (a : WavePhase) → r ≤ 2047 → WavePhaseHeld a → WavePhaseHeld (iterate n (wave_phase_clocked r) a)
wave_phases_held r n a l h = iterate_holds WavePhaseHeld (wave_phase_clocked r) (λ x k. wave_phase_held r x l k) n a h

pub own_held : (w : WaveChannel) → Held w → WavePhaseHeld (wave_phase_of w)
own_held w h = record { position = h.position; timer = h.timer }
