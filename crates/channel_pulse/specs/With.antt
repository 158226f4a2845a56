-- A sweep and a pulse channel with one thing written anew, all else as it was: the fields in rows, and each setter by its row's.
-- None of these is a rule. Assumes nothing.
use Rattle.std.specs.Prelude.{ℕ, Bool, true}
use Rattle.channel_parts.specs.declared.envelope.Envelope.{Envelope}
use Rattle.channel_pulse.specs.declared.sweep.Sweep.{Sweep}
use Rattle.channel_pulse.specs.declared.pulse_channel.PulseChannel.{PulseChannel}

-- another counter, shadow and "calculated" flag of a sweep
abbrev pub with_time_shadow_and_flag : Sweep → ℕ → ℕ → Bool → Sweep
with_time_shadow_and_flag s time shadow calculated =
    record {
      period = s.period;
      current_time = time;
      internal_enable = s.internal_enable;
      frequency_shadow = shadow;
      negate = s.negate;
      shift_n = s.shift_n;
      calculation_happened = calculated;
    }

abbrev pub with_time : Sweep → ℕ → Sweep
with_time s time = with_time_shadow_and_flag s time s.frequency_shadow s.calculation_happened

abbrev pub with_shadow : Sweep → ℕ → Sweep
with_shadow s shadow = with_time_shadow_and_flag s s.current_time shadow s.calculation_happened

-- the "calculated" flag set
abbrev pub flagged : Sweep → Sweep
flagged s = with_time_shadow_and_flag s s.current_time s.frequency_shadow true

-- another sweep, duty and envelope of a pulse
abbrev pub with_sweep_duty_and_envelope : PulseChannel → Sweep → ℕ → Envelope → PulseChannel
with_sweep_duty_and_envelope p sweep duty envelope =
    record {
      sweep = sweep;
      sequencer_position = p.sequencer_position;
      duty = duty;
      envelope = envelope;
      frequency = p.frequency;
      frequency_timer = p.frequency_timer;
      channel_enabled = p.channel_enabled;
      first_trigger = p.first_trigger;
      dac_enable = p.dac_enable;
    }

-- another duty position, frequency and timer
abbrev pub with_position_frequency_and_timer : PulseChannel → ℕ → ℕ → ℕ → PulseChannel
with_position_frequency_and_timer p position frequency timer =
    record {
      sweep = p.sweep;
      sequencer_position = position;
      duty = p.duty;
      envelope = p.envelope;
      frequency = frequency;
      frequency_timer = timer;
      channel_enabled = p.channel_enabled;
      first_trigger = p.first_trigger;
      dac_enable = p.dac_enable;
    }

-- the channel on or off, its DAC on or off
abbrev pub with_on_and_dac : PulseChannel → Bool → Bool → PulseChannel
with_on_and_dac p on dac =
    record {
      sweep = p.sweep;
      sequencer_position = p.sequencer_position;
      duty = p.duty;
      envelope = p.envelope;
      frequency = p.frequency;
      frequency_timer = p.frequency_timer;
      channel_enabled = on;
      first_trigger = p.first_trigger;
      dac_enable = dac;
    }

abbrev pub with_sweep : PulseChannel → Sweep → PulseChannel
with_sweep p sweep = with_sweep_duty_and_envelope p sweep p.duty p.envelope

abbrev pub with_duty : PulseChannel → ℕ → PulseChannel
with_duty p duty = with_sweep_duty_and_envelope p p.sweep duty p.envelope

abbrev pub with_envelope : PulseChannel → Envelope → PulseChannel
with_envelope p envelope = with_sweep_duty_and_envelope p p.sweep p.duty envelope

abbrev pub with_position : PulseChannel → ℕ → PulseChannel
with_position p position = with_position_frequency_and_timer p position p.frequency p.frequency_timer

abbrev pub with_frequency : PulseChannel → ℕ → PulseChannel
with_frequency p frequency = with_position_frequency_and_timer p p.sequencer_position frequency p.frequency_timer

abbrev pub with_timer : PulseChannel → ℕ → PulseChannel
with_timer p timer = with_position_frequency_and_timer p p.sequencer_position p.frequency timer

abbrev pub with_on : PulseChannel → Bool → PulseChannel
with_on p on = with_on_and_dac p on p.dac_enable

abbrev pub with_dac : PulseChannel → Bool → PulseChannel
with_dac p dac = with_on_and_dac p p.channel_enabled dac
