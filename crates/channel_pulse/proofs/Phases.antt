-- Many clocks of what a pulse's clocks move, by the law of the timer; and the channel's own clock moves nothing else. Assumes nothing.
use mathlib.Core.Path.{◌≡◌, refl, sym, ap, ◌∙◌}
use mathlib.Core.Bool.{Bool, true, false}
use Prim.Native.Nat.{ℕ, zero, suc, ◌+◌, ◌-◌, ◌%◌, ◌≤◌}
use native.Mathlib.Omega.{arith}
use lib.Dec.{eqb, eqb-suc-zero}
use Rattle.ground.specs.Pick.{pick}
use Rattle.ground.specs.Iterate.{iterate}
use Rattle.ground.specs.Timer.{counted_down}
use Rattle.ground.specs.declared.timer.CountedDown.{CountedDown}
use Rattle.ground.proofs.Cases.{pick_true, pick_false, both_ways}
use Rattle.ground.proofs.Timers.{turns, ran, iterate_holds, pick_ap, reload_back, less_one}
use Rattle.channel_pulse.specs.Pulse.{Held, reload_of, ticked, clocked}
use Rattle.channel_pulse.specs.Phase.{PulsePhaseHeld, pulse_phase_of, with_pulse_phase, pulse_phase_clocked}
use Rattle.channel_pulse.specs.declared.phase.PulsePhase.{PulsePhase}
use Rattle.channel_pulse.specs.declared.pulse_channel.PulseChannel.{PulseChannel}

abbrev pulse_phase_at : ℕ → ℕ → PulsePhase
pulse_phase_at t x = record { sequencer_position = x; frequency_timer = t }

pulse_phase_fires : (r x : ℕ) → pulse_phase_clocked true r (pulse_phase_at 0 x) ≡ pulse_phase_at (r + 1 - 1) ((x + 1) % 8)
unfolding pulse_phase_clocked
pulse_phase_fires r x = pick_true _ _ _ refl ∙ pick_true _ _ _ refl ∙ ap (λ (t : ℕ). pulse_phase_at t ((x + 1) % 8)) (reload_back r)

pulse_phase_falls : (r t x : ℕ) → pulse_phase_clocked true r (pulse_phase_at (suc t) x) ≡ pulse_phase_at t x
unfolding pulse_phase_clocked
pulse_phase_falls r t x = pick_true _ _ _ refl ∙ pick_false _ _ _ (eqb-suc-zero t) ∙ ap (λ (y : ℕ). pulse_phase_at y x) (less_one t)

-- what the code makes of a run of the timer
pub pulse_phase_ran : (a : PulsePhase) (r n : ℕ) (run : CountedDown) → PulsePhaseHeld a → run ≡ counted_down a.frequency_timer (r + 1) n
    → record { sequencer_position = (a.sequencer_position + run.steps) % 8; frequency_timer = run.timer } ≡ iterate n (pulse_phase_clocked true r) a
pulse_phase_ran a r n run h e =
    let place = a.sequencer_position in
    let step : ℕ → ℕ = λ (x : ℕ). (x + 1) % 8 in
    ap (pulse_phase_at run.timer) (sym (ap (iterate run.steps step) (sym (within place h.position)) ∙ turns 8 place run.steps))
    ∙ ran pulse_phase_at (pulse_phase_clocked true r) step r (pulse_phase_fires r) (pulse_phase_falls r) n a.frequency_timer place run e
  where
    within : (x : ℕ) → x ≤ 7 → x % 8 ≡ x
    within x h = omega arith

pub pulse_phase_stands : (r n : ℕ) (a : PulsePhase) → iterate n (pulse_phase_clocked false r) a ≡ a
unfolding iterate pulse_phase_clocked
pulse_phase_stands r zero a = refl
pulse_phase_stands r (suc n) a = ap (iterate n (pulse_phase_clocked false r)) (pick_false _ _ _ refl) ∙ pulse_phase_stands r n a

-- the same by whether it was ever triggered: where not, a run of no clocks
pub pulse_phase_either : (triggered : Bool) (a : PulsePhase) (r n : ℕ) (run : CountedDown) → PulsePhaseHeld a
    → run ≡ counted_down a.frequency_timer (r + 1) (pick triggered n 0)
    → record { sequencer_position = (a.sequencer_position + run.steps) % 8; frequency_timer = run.timer } ≡ iterate n (pulse_phase_clocked triggered r) a
unfolding pick iterate
pulse_phase_either true a r n run h e = pulse_phase_ran a r n run h e
pulse_phase_either false a r n run h e = pulse_phase_ran a r 0 run h e ∙ sym (pulse_phase_stands r n a)

-- ---- the channel's clock
pub pulse_phase_part : (p : PulseChannel) (t : PulsePhase)
    → clocked (with_pulse_phase p t) ≡ with_pulse_phase p (pulse_phase_clocked p.first_trigger (reload_of p) t)
unfolding clocked ticked pulse_phase_clocked
pulse_phase_part p t =
    ap (λ (x : PulseChannel). pick p.first_trigger x (with_pulse_phase p t)) (pick_ap (with_pulse_phase p) (eqb t.frequency_timer 0) _ _)
    ∙ pick_ap (with_pulse_phase p) p.first_trigger _ t

-- ---- the ranges
pub pulse_phase_held : (b : Bool) (r : ℕ) (a : PulsePhase) → r ≤ 2047 → PulsePhaseHeld a → PulsePhaseHeld (pulse_phase_clocked b r a)
unfolding pulse_phase_clocked
pulse_phase_held b r a l h =
    both_ways PulsePhaseHeld b
    (both_ways PulsePhaseHeld (eqb a.frequency_timer 0)
    (record { position = within a.sequencer_position; timer = l })
    (record { position = h.position; timer = omega (arith, h.timer) }))
    h
  where
    within : (x : ℕ) → (x + 1) % 8 ≤ 7
    within x = omega arith

pub pulse_phases_held : (b : Bool) (r n : ℕ) (a : PulsePhase) → r ≤ 2047 → PulsePhaseHeld a → PulsePhaseHeld (iterate n (pulse_phase_clocked b r) a)
pulse_phases_held b r n a l h = iterate_holds PulsePhaseHeld (pulse_phase_clocked b r) (λ x k. pulse_phase_held b r x l k) n a h

pub own_held : (p : PulseChannel) → Held p → PulsePhaseHeld (pulse_phase_of p)
own_held p h = record { position = h.position; timer = h.timer }
