-- A noise channel with one thing written anew, all else as it was: its fields in three rows, and each setter by its row's.
-- None of these is a rule. Assumes nothing.
use Rattle.std.specs.Prelude.{ℕ, Bool}
use Rattle.channel_parts.specs.declared.envelope.Envelope.{Envelope}
use Rattle.channel_noise.specs.declared.noise_channel.NoiseChannel.{NoiseChannel}

-- another shift, mode and divisor code
abbrev pub with_noise : NoiseChannel → ℕ → Bool → ℕ → NoiseChannel
with_noise n shift narrow code =
    record {
      shift_clock_frequency = shift;
      step_mode_7_bits = narrow;
      divisor_code = code;
      frequency_timer = n.frequency_timer;
      feedback_shift_register = n.feedback_shift_register;
      envelope = n.envelope;
      channel_enabled = n.channel_enabled;
      dac_enable = n.dac_enable;
    }

-- another register and timer
abbrev pub with_register_and_timer : NoiseChannel → ℕ → ℕ → NoiseChannel
with_register_and_timer n register timer =
    record {
      shift_clock_frequency = n.shift_clock_frequency;
      step_mode_7_bits = n.step_mode_7_bits;
      divisor_code = n.divisor_code;
      frequency_timer = timer;
      feedback_shift_register = register;
      envelope = n.envelope;
      channel_enabled = n.channel_enabled;
      dac_enable = n.dac_enable;
    }

-- another envelope, the channel on or off, its DAC on or off
abbrev pub with_envelope_on_and_dac : NoiseChannel → Envelope → Bool → Bool → NoiseChannel
with_envelope_on_and_dac n after on dac =
    record {
      shift_clock_frequency = n.shift_clock_frequency;
      step_mode_7_bits = n.step_mode_7_bits;
      divisor_code = n.divisor_code;
      frequency_timer = n.frequency_timer;
      feedback_shift_register = n.feedback_shift_register;
      envelope = after;
      channel_enabled = on;
      dac_enable = dac;
    }

abbrev pub with_envelope : NoiseChannel → Envelope → NoiseChannel
with_envelope n after = with_envelope_on_and_dac n after n.channel_enabled n.dac_enable

abbrev pub with_on : NoiseChannel → Bool → NoiseChannel
with_on n on = with_envelope_on_and_dac n n.envelope on n.dac_enable

abbrev pub with_dac : NoiseChannel → Bool → NoiseChannel
with_dac n dac = with_envelope_on_and_dac n n.envelope n.channel_enabled dac
