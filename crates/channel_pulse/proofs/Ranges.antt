-- What the rules make of a sweep or a pulse that holds its ranges holds them again, a law for each definition; and outputs are nibbles. Assumes nothing.
use mathlib.Core.Bool.{Bool}
use Prim.Native.Nat.{ℕ, ◌≤◌}
use native.Mathlib.Omega.{arith}
use borrow.Author.Tests.{leb-true}
use Rattle.ground.specs.Pick.{pick}
use Rattle.ground.proofs.Cases.{pick_holds, both_ways, and_left}
use Rattle.channel_parts.specs.Envelope as envelope
use Rattle.channel_parts.specs.declared.envelope.Envelope.{Envelope}
use Rattle.channel_parts.proofs.Ranges.{reload_le, envelope_fresh_held, envelope_written_held, envelope_triggered_held}
use Rattle.channel_pulse.specs.Sweep as sweep
use Rattle.channel_pulse.specs.Pulse as pulse
use Rattle.channel_pulse.specs.With as with
use Rattle.channel_pulse.specs.declared.sweep.Sweep.{Sweep}
use Rattle.channel_pulse.specs.declared.sweep.Checked.{Checked}
use Rattle.channel_pulse.specs.declared.sweep.Swept.{Swept}
use Rattle.channel_pulse.specs.declared.pulse_channel.PulseChannel.{PulseChannel}

-- ---- the sweep, and the frequency that it hands back
pub record SweptHeld (r : Swept) : Type 0 where
  pub sweep : sweep.Held r.sweep
  pub frequency : r.frequency ≤ 2047

pub sweep_fresh_held : sweep.Held sweep.fresh
sweep_fresh_held = search arith

pub sweep_written_held : (s : Sweep) (v : ℕ) → sweep.Held s → sweep.Held (sweep.written s v).sweep
sweep_written_held s v h = record { period = omega arith; time = h.time; shadow = h.shadow; shift = omega arith }

pub reloaded_held : (s : Sweep) → sweep.Held s → sweep.Held (sweep.reloaded s)
unfolding sweep.reloaded
reloaded_held s h = record { period = h.period; time = reload_le s.period h.period; shadow = h.shadow; shift = h.shift }

pub calculated_held : (s : Sweep) → sweep.Held s → sweep.Held (sweep.calculated s).sweep
unfolding sweep.calculated
calculated_held s h = record { period = h.period; time = h.time; shadow = h.shadow; shift = h.shift }

checked_held : (s : Sweep) → sweep.Held s → sweep.Held (sweep.checked s).sweep
unfolding sweep.checked
checked_held s h = calculated_held s h

pub sweep_started_held : (s : Sweep) (f : ℕ) → sweep.Held s → f ≤ 2047 → sweep.Held (sweep.sweep_started s f)
unfolding sweep.sweep_started
sweep_started_held s f h k = record { period = h.period; time = reload_le s.period h.period; shadow = k; shift = h.shift }

stored_held : (s : Sweep) (f : ℕ) → sweep.Held s → f ≤ 2047 → SweptHeld (sweep.stored s f)
unfolding sweep.stored
stored_held s f h k = record { sweep = checked_held _ (record { period = h.period; time = h.time; shadow = k; shift = h.shift }); frequency = k }

updated_held : (s : Sweep) (f : ℕ) → sweep.Held s → f ≤ 2047 → SweptHeld (sweep.updated s f)
unfolding sweep.updated
updated_held s f h k =
    let first = calculated_held s h in
    pick_holds SweptHeld _ _ _
    (λ e. stored_held _ _ first (leb-true _ _ (and_left _ _ e)))
    (λ _. record { sweep = first; frequency = k })

pub sweep_clocked_held : (s : Sweep) (f : ℕ) → sweep.Held s → f ≤ 2047 → SweptHeld (sweep.clocked s f)
unfolding sweep.clocked sweep.expired
sweep_clocked_held s f h k =
    let next = reloaded_held s h in
    both_ways SweptHeld _
    (both_ways SweptHeld _ (updated_held _ f next k) (record { sweep = next; frequency = k }))
    (record { sweep = record { period = h.period; time = omega arith; shadow = h.shadow; shift = h.shift }; frequency = k })

pub sweep_triggered_held : (s : Sweep) (f : ℕ) → sweep.Held s → f ≤ 2047 → sweep.Held (sweep.triggered s f).sweep
unfolding sweep.triggered
sweep_triggered_held s f h k =
    let next = sweep_started_held s f h k in
    both_ways (λ (r : Checked). sweep.Held r.sweep) _ next (checked_held _ next)

-- ---- a pulse
pub pulse_fresh_held : pulse.Held pulse.fresh
pulse_fresh_held =
    record {
      sweep = sweep_fresh_held;
      position = omega arith;
      duty = omega arith;
      envelope = envelope_fresh_held;
      frequency = omega arith;
      timer = omega arith;
    }

module _ (p : PulseChannel) (h : pulse.Held p) where
  -- a row of fields written anew
  sweep_duty_envelope_held : (s : Sweep) (d : ℕ) (e : Envelope) → sweep.Held s → d ≤ 3 → envelope.Held e
      → pulse.Held (with.with_sweep_duty_and_envelope p s d e)
  sweep_duty_envelope_held s d e a b k = record { sweep = a; position = h.position; duty = b; envelope = k; frequency = h.frequency; timer = h.timer }

  position_frequency_timer_held : (position f timer : ℕ) → position ≤ 7 → f ≤ 2047 → timer ≤ 2047
      → pulse.Held (with.with_position_frequency_and_timer p position f timer)
  position_frequency_timer_held position f timer a b k =
      record { sweep = h.sweep; position = a; duty = h.duty; envelope = h.envelope; frequency = b; timer = k }

  on_dac_held : (on dac : Bool) → pulse.Held (with.with_on_and_dac p on dac)
  on_dac_held on dac =
      record { sweep = h.sweep; position = h.position; duty = h.duty; envelope = h.envelope; frequency = h.frequency; timer = h.timer }

  -- and one field of a row
  pub pulse_sweep_held : (s : Sweep) → sweep.Held s → pulse.Held (with.with_sweep p s)
  pulse_sweep_held s k = sweep_duty_envelope_held s _ _ k h.duty h.envelope

  pub pulse_duty_held : (d : ℕ) → pulse.Held (pulse.duty_written p d)
  pulse_duty_held d = sweep_duty_envelope_held _ _ _ h.sweep (omega arith) h.envelope

  pub pulse_envelope_held : (e : Envelope) → envelope.Held e → pulse.Held (with.with_envelope p e)
  pulse_envelope_held e k = sweep_duty_envelope_held _ _ e h.sweep h.duty k

  pub pulse_frequency_held : (f : ℕ) → f ≤ 2047 → pulse.Held (with.with_frequency p f)
  pulse_frequency_held f k = position_frequency_timer_held _ f _ h.position k h.timer

  pub pulse_position_held : (position : ℕ) → position ≤ 7 → pulse.Held (with.with_position p position)
  pulse_position_held position k = position_frequency_timer_held position _ _ k h.frequency h.timer

  pulse_timer_held : (timer : ℕ) → timer ≤ 2047 → pulse.Held (with.with_timer p timer)
  pulse_timer_held timer k = position_frequency_timer_held _ _ timer h.position h.frequency k

  pub pulse_on_held : (on : Bool) → pulse.Held (with.with_on p on)
  pulse_on_held on = on_dac_held on _

  pub pulse_dac_held : (dac : Bool) → pulse.Held (pulse.dac_set p dac)
  pulse_dac_held dac = on_dac_held _ dac

  pub pulse_triggered_held : pulse.Held (pulse.triggered p)
  unfolding pulse.triggered
  pulse_triggered_held =
      record {
        sweep = sweep_triggered_held p.sweep p.frequency h.sweep h.frequency;
        position = h.position;
        duty = h.duty;
        envelope = envelope_triggered_held p.envelope h.envelope;
        frequency = h.frequency;
        timer = omega arith;
      }

pub pulse_sweep_written_held : (p : PulseChannel) (v : ℕ) → pulse.Held p → pulse.Held (pulse.sweep_written p v)
unfolding pulse.sweep_written
pulse_sweep_written_held p v h = pulse_on_held _ (pulse_sweep_held p h _ (sweep_written_held p.sweep v h.sweep)) _

pub pulse_clocked_held : (p : PulseChannel) → pulse.Held p → pulse.Held (pulse.clocked p)
unfolding pulse.clocked pulse.ticked
pulse_clocked_held p h =
    both_ways pulse.Held _
    (both_ways pulse.Held _ (pulse_timer_held _ (pulse_position_held p h _ (omega arith)) _ (omega arith)) (pulse_timer_held p h _ (omega arith)))
    h

pub pulse_enveloped_held : (p : PulseChannel) (v : ℕ) → v ≤ 255 → pulse.Held p → pulse.Held (pulse.enveloped p v)
unfolding pulse.enveloped
pulse_enveloped_held p v k h = pulse_dac_held _ (pulse_envelope_held p h _ (envelope_written_held p.envelope v k)) _

pub pulse_sweep_clocked_held : (p : PulseChannel) → pulse.Held p → pulse.Held (pulse.sweep_clocked p)
unfolding pulse.sweep_clocked
pulse_sweep_clocked_held p h =
    let swept = sweep_clocked_held p.sweep p.frequency h.sweep h.frequency in
    pulse_frequency_held _ (pulse_on_held _ (pulse_sweep_held p h _ swept.sweep) _) _ swept.frequency

pub pulse_output_le : (p : PulseChannel) → pulse.Held p → pulse.output_of p ≤ 15
unfolding pulse.output_of
pulse_output_le p h = both_ways (λ (n : ℕ). n ≤ 15) _ h.envelope.current (omega arith)

-- FF10 has seven bits
pub sweep_byte_le : (s : Sweep) → sweep.byte_of s ≤ 127
sweep_byte_le s =
    let h : pick s.negate 8 0 ≤ 8 = both_ways (λ (n : ℕ). n ≤ 8) s.negate (omega arith) (omega arith) in
    omega arith
