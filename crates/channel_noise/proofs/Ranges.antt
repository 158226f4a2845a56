-- What the rules make of a noise channel that holds its ranges holds them again, a law for each definition; and outputs are nibbles. Assumes nothing.
use mathlib.Core.Bool.{Bool}
use Prim.Native.Nat.{ℕ, ◌≤◌}
use native.Mathlib.Omega.{arith}
use Rattle.ground.proofs.Cases.{both_ways}
use Rattle.channel_parts.specs.Envelope as envelope
use Rattle.channel_parts.specs.declared.envelope.Envelope.{Envelope}
use Rattle.channel_parts.proofs.Ranges.{envelope_fresh_held, envelope_written_held, envelope_triggered_held}
use Rattle.channel_noise.specs.Noise as noise
use Rattle.channel_noise.specs.With as with
use Rattle.channel_noise.specs.declared.noise_channel.NoiseChannel.{NoiseChannel}

pub feedback_le : (r : ℕ) → noise.feedback_of r ≤ 1
unfolding noise.feedback_of
feedback_le r = both_ways (λ (n : ℕ). n ≤ 1) _ (omega arith) (omega arith)

pub register_le : (r : ℕ) (narrow : Bool) → r ≤ 0x7FFF → noise.stepped_register r narrow ≤ 0x7FFF
unfolding noise.stepped_register noise.put_bit
register_le r narrow h =
    let x = feedback_le r in
    both_ways (λ (n : ℕ). n ≤ 0x7FFF) narrow (omega arith) (omega arith)

pub reload_most : (n : NoiseChannel) → noise.reload_of n ≤ 16383
unfolding noise.reload_of
reload_most n = omega arith

pub noise_fresh_held : noise.Held noise.fresh
noise_fresh_held = record { shift = omega arith; code = omega arith; timer = omega arith; register = omega arith; envelope = envelope_fresh_held }

module _ (n : NoiseChannel) (h : noise.Held n) where
  pub noise_written_held : (v : ℕ) → v ≤ 255 → noise.Held (noise.written n v)
  noise_written_held v k = record { shift = omega arith; code = omega arith; timer = h.timer; register = h.register; envelope = h.envelope }

  envelope_on_dac_held : (e : Envelope) (on dac : Bool) → envelope.Held e → noise.Held (with.with_envelope_on_and_dac n e on dac)
  envelope_on_dac_held e on dac k = record { shift = h.shift; code = h.code; timer = h.timer; register = h.register; envelope = k }

  pub noise_envelope_held : (e : Envelope) → envelope.Held e → noise.Held (with.with_envelope n e)
  noise_envelope_held e k = envelope_on_dac_held e _ _ k

  pub noise_on_held : (on : Bool) → noise.Held (with.with_on n on)
  noise_on_held on = envelope_on_dac_held _ on _ h.envelope

  pub noise_dac_held : (dac : Bool) → noise.Held (noise.dac_set n dac)
  noise_dac_held dac = envelope_on_dac_held _ _ dac h.envelope

  pub noise_register_timer_held : (register timer : ℕ) → register ≤ 0x7FFF → timer ≤ 16383 → noise.Held (with.with_register_and_timer n register timer)
  noise_register_timer_held register timer a b = record { shift = h.shift; code = h.code; timer = b; register = a; envelope = h.envelope }

  pub noise_clocked_held : noise.Held (noise.clocked n)
  unfolding noise.clocked
  noise_clocked_held =
      both_ways noise.Held _
      (noise_register_timer_held _ _ (register_le n.feedback_shift_register n.step_mode_7_bits h.register) (reload_most n))
      (noise_register_timer_held _ _ h.register (omega arith))

  pub noise_triggered_held : noise.Held (noise.triggered n)
  unfolding noise.triggered
  noise_triggered_held =
      record {
        shift = h.shift;
        code = h.code;
        timer = h.timer;
        register = omega arith;
        envelope = envelope_triggered_held n.envelope h.envelope;
      }

pub noise_enveloped_held : (n : NoiseChannel) (v : ℕ) → v ≤ 255 → noise.Held n → noise.Held (noise.enveloped n v)
unfolding noise.enveloped
noise_enveloped_held n v k h = noise_dac_held _ (noise_envelope_held n h _ (envelope_written_held n.envelope v k)) _

pub noise_output_le : (n : NoiseChannel) → noise.Held n → noise.output_of n ≤ 15
unfolding noise.output_of
noise_output_le n h = both_ways (λ (k : ℕ). k ≤ 15) _ h.envelope.current (omega arith)
