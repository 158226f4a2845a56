-- The rules of the noise channel, from document 01, "Channel rules". Assumes nothing.
use Rattle.std.specs.Prelude.{ℕ, ◌+◌, ◌-◌, ◌*◌, ◌/◌, ◌%◌, ◌^◌, ◌≤◌, Bool, false, not, ◌&&◌, ◌||◌, eqb, leb}
use Rattle.ground.specs.Pick.{pick}
use Rattle.channel_parts.specs.Envelope as envelope
use Rattle.channel_noise.specs.With.{with_noise, with_register_and_timer, with_envelope, with_on, with_dac}
use Rattle.channel_noise.specs.declared.noise_channel.NoiseChannel.{NoiseChannel}

-- "Ranges held from the start": noise timer 0..16383, noise register 0..7FFF; the bits of shift and code
pub record Held (n : NoiseChannel) : Type 0 where
  pub shift : n.shift_clock_frequency ≤ 15
  pub code : n.divisor_code ≤ 7
  pub timer : n.frequency_timer ≤ 16383
  pub register : n.feedback_shift_register ≤ 0x7FFF
  pub envelope : envelope.Held n.envelope

-- "Start: everything 0 or off"
abbrev pub fresh : NoiseChannel
fresh =
    record {
      shift_clock_frequency = 0;
      step_mode_7_bits = false;
      divisor_code = 0;
      frequency_timer = 0;
      feedback_shift_register = 0;
      envelope = envelope.fresh;
      channel_enabled = false;
      dac_enable = false;
    }

-- FF22 as Pan Docs has it: shift, 7-bit mode, divisor code; written, and read
abbrev pub written : NoiseChannel → ℕ → NoiseChannel
written n value = with_noise n (value / 16) (eqb (value / 8 % 2) 1) (value % 8)

abbrev pub byte_of : NoiseChannel → ℕ
byte_of n = n.shift_clock_frequency % 16 * 16 + pick n.step_mode_7_bits 8 0 + n.divisor_code % 8

-- "DAC .. off turns the channel off"
abbrev pub dac_set : NoiseChannel → Bool → NoiseChannel
dac_set n dac = with_on (with_dac n dac) (n.channel_enabled && dac)

-- an FF21 write: the envelope, and "DAC is FFx2 with F8": on where one of the upper five bits is set
unfoldable pub enveloped : NoiseChannel → ℕ → NoiseChannel
enveloped n value = dac_set (with_envelope n (envelope.written n.envelope value)) (leb 8 value)

-- "divisor (8, or 16 times the code)"
unfoldable pub divisor_of : ℕ → ℕ
divisor_of code = pick (eqb code 0) 8 (code * 16)

-- "Noise reload: divisor .. shifted left in 16 bits, then /4; what runs past the sixteenth bit is lost"
abbrev pub reload_by : ℕ → ℕ → ℕ
reload_by code shift = (divisor_of code * 2 ^ shift) % 65536 / 4

-- a channel's
unfoldable pub reload_of : NoiseChannel → ℕ
reload_of n = reload_by n.divisor_code n.shift_clock_frequency

-- an FF22 byte's: code in the lowest three bits, shift in the upper four, bit 3 makes no difference
unfoldable pub reload_at : ℕ → ℕ
reload_at ff22 = reload_by (ff22 % 8) (ff22 / 16)

-- "x = bit 0 xor bit 1"
unfoldable pub feedback_of : ℕ → ℕ
feedback_of register = pick (not (eqb (register % 2) (register / 2 % 2))) 1 0

-- a register with x as its bit k: what lies above the bit, the bit, and what lies below
unfoldable pub put_bit : ℕ → ℕ → ℕ → ℕ
put_bit k x register = register / 2 ^ (k + 1) * 2 ^ (k + 1) + x * 2 ^ k + register % 2 ^ k

-- "shift right; x to bit 14, in 7-bit mode to bit 6 too"
unfoldable pub stepped_register : ℕ → Bool → ℕ
stepped_register register narrow =
    let x = feedback_of register in
    let wide = put_bit 14 x (register / 2) in
    pick narrow (put_bit 6 x wide) wide

-- "A timer at 0 steps its channel and reloads, else loses 1"
unfoldable pub clocked : NoiseChannel → NoiseChannel
clocked n =
    pick (eqb n.frequency_timer 0)
    (with_register_and_timer n (stepped_register n.feedback_shift_register n.step_mode_7_bits) (reload_of n))
    (with_register_and_timer n n.feedback_shift_register (n.frequency_timer - 1))

-- "A trigger turns the channel on if its DAC is on"; "A trigger sets the register to 7FFF and not the timer"
unfoldable pub triggered : NoiseChannel → NoiseChannel
triggered n =
    record {
      shift_clock_frequency = n.shift_clock_frequency;
      step_mode_7_bits = n.step_mode_7_bits;
      divisor_code = n.divisor_code;
      frequency_timer = n.frequency_timer;
      feedback_shift_register = 0x7FFF;
      envelope = envelope.triggered n.envelope;
      channel_enabled = n.channel_enabled || n.dac_enable;
      dac_enable = n.dac_enable;
    }

-- "Output: 0 with the channel off .. Noise: (bit 0 xor 1) × volume"
unfoldable pub output_of : NoiseChannel → ℕ
output_of n = pick (n.channel_enabled && eqb (n.feedback_shift_register % 2) 0) n.envelope.current_volume 0

-- "Muted is: channel off, or (not wave) volume 0"
abbrev pub muted_of : NoiseChannel → Bool
muted_of n = not n.channel_enabled || eqb n.envelope.current_volume 0
