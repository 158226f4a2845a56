-- The rules of a pulse channel, from document 01, "Channel rules". Assumes nothing.
use Rattle.std.specs.Prelude.{ℕ, ◌+◌, ◌-◌, ◌/◌, ◌%◌, ◌^◌, ◌≤◌, Bool, true, false, not, ◌&&◌, ◌||◌, eqb, leb}
use Rattle.ground.specs.Pick.{pick}
use Rattle.channel_parts.specs.Envelope as envelope
use Rattle.channel_pulse.specs.Sweep as sweep
use Rattle.channel_pulse.specs.With.{with_sweep, with_position, with_duty, with_envelope, with_frequency, with_timer, with_on, with_dac}
use Rattle.channel_pulse.specs.declared.pulse_channel.PulseChannel.{PulseChannel}

-- "Ranges held from the start": frequency and pulse timer 0..2047, duty position 0..7; the duty's two bits
pub record Held (p : PulseChannel) : Type 0 where
  pub sweep : sweep.Held p.sweep
  pub position : p.sequencer_position ≤ 7
  pub duty : p.duty ≤ 3
  pub envelope : envelope.Held p.envelope
  pub frequency : p.frequency ≤ 2047
  pub timer : p.frequency_timer ≤ 2047

-- "Start: everything 0 or off"
abbrev pub fresh : PulseChannel
fresh =
    record {
      sweep = sweep.fresh;
      sequencer_position = 0;
      duty = 0;
      envelope = envelope.fresh;
      frequency = 0;
      frequency_timer = 0;
      channel_enabled = false;
      first_trigger = false;
      dac_enable = false;
    }

-- the two duty bits of FF11 or FF16
abbrev pub duty_written : PulseChannel → ℕ → PulseChannel
duty_written p duty = with_duty p (duty % 4)

-- "DAC .. off turns the channel off"
abbrev pub dac_set : PulseChannel → Bool → PulseChannel
dac_set p dac = with_on (with_dac p dac) (p.channel_enabled && dac)

-- "An FF10 write that ends negate with the flag set turns the channel off"
unfoldable pub sweep_written : PulseChannel → ℕ → PulseChannel
sweep_written p value =
    let after = sweep.written p.sweep value in
    with_on (with_sweep p after.sweep) (p.channel_enabled && not after.off)

-- an FFx2 write: the envelope, and "DAC is FFx2 with F8": on where one of the upper five bits is set
unfoldable pub enveloped : PulseChannel → ℕ → PulseChannel
enveloped p value = dac_set (with_envelope p (envelope.written p.envelope value)) (leb 8 value)

-- "Pulse and wave reload to 2047 - frequency"
abbrev pub reload_of : PulseChannel → ℕ
reload_of p = 2047 - p.frequency

-- "A timer at 0 steps its channel and reloads, else loses 1"
unfoldable pub ticked : PulseChannel → PulseChannel
ticked p =
    pick (eqb p.frequency_timer 0)
    (with_timer (with_position p ((p.sequencer_position + 1) % 8)) (reload_of p))
    (with_timer p (p.frequency_timer - 1))

-- "A pulse stands still until its first trigger"
unfoldable pub clocked : PulseChannel → PulseChannel
clocked p = pick p.first_trigger (ticked p) p

-- a sweep clock: the sweep's own, on the channel's frequency
unfoldable pub sweep_clocked : PulseChannel → PulseChannel
sweep_clocked p =
    let swept = sweep.clocked p.sweep p.frequency in
    with_frequency (with_on (with_sweep p swept.sweep) (p.channel_enabled && not swept.off)) swept.frequency

-- "A trigger turns the channel on if its DAC is on, before the channel's own trigger rules"; "reload .. a pulse trigger too"
unfoldable pub triggered : PulseChannel → PulseChannel
triggered p =
    let after = sweep.triggered p.sweep p.frequency in
    record {
      sweep = after.sweep;
      sequencer_position = p.sequencer_position;
      duty = p.duty;
      envelope = envelope.triggered p.envelope;
      frequency = p.frequency;
      frequency_timer = reload_of p;
      channel_enabled = (p.channel_enabled || p.dac_enable) && not after.off;
      first_trigger = true;
      dac_enable = p.dac_enable;
    }

-- "Duty rows: 00000001, 10000001, 10000111, 01111110"
unfoldable pub duty_row : ℕ → ℕ
duty_row duty = pick (eqb duty 0) 0b0000_0001 (pick (eqb duty 1) 0b1000_0001 (pick (eqb duty 2) 0b1000_0111 0b0111_1110))

-- the bit at the position, the row's first step highest
abbrev pub duty_bit : PulseChannel → ℕ
duty_bit p = duty_row p.duty / 2 ^ (7 - p.sequencer_position) % 2

-- "Output: 0 with the channel off. Pulse: duty bit at the position × volume"
unfoldable pub output_of : PulseChannel → ℕ
output_of p = pick (p.channel_enabled && eqb (duty_bit p) 1) p.envelope.current_volume 0

-- "Muted is: channel off, or (not wave) volume 0"
abbrev pub muted_of : PulseChannel → Bool
muted_of p = not p.channel_enabled || eqb p.envelope.current_volume 0
