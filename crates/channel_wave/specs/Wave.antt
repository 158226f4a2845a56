-- The rules of the wave channel, from document 01, "Channel rules". Assumes nothing.
use Rattle.std.specs.Prelude.{ℕ, ◌+◌, ◌-◌, ◌*◌, ◌/◌, ◌%◌, ◌^◌, ◌≤◌, ◌≡◌, ◌⊎◌, Bool, true, false, not, ◌&&◌, ◌||◌}
use Rattle.std.specs.Prelude.{Option, Some, None, List, eqb, leb, length, get_or, set, replicate}
use Rattle.ground.specs.Pick.{pick}
use Rattle.channel_wave.specs.With.{with_volume, with_buffer, with_position_and_timer, with_on, with_dac}
use Rattle.channel_wave.specs.declared.wave_channel.WaveChannel.{WaveChannel}

-- "shifted right by 4, 0, 1, 2 for volume 0 to 3"
unfoldable pub shift_of : ℕ → ℕ
shift_of volume = pick (eqb volume 0) 4 (pick (eqb volume 1) 0 (pick (eqb volume 2) 1 2))

-- the stored shift is that of the volume, or 0 at volume 0: "the wave shift too (not 4) until FF1C is first written"
abbrev pub ShiftHeld : ℕ → ℕ → Type 0
ShiftHeld volume shift = (shift ≡ shift_of volume) ⊎ ((volume ≡ 0) × (shift ≡ 0))

-- "Ranges held from the start": frequency 0..2047, wave timer 0..2050, wave position 0..31; the volume's two bits, sixteen bytes
pub record Held (w : WaveChannel) : Type 0 where
  pub volume : w.volume ≤ 3
  pub shift : ShiftHeld w.volume w.volume_shift
  pub frequency : w.frequency ≤ 2047
  pub buffer : length w.buffer ≡ 16
  pub position : w.buffer_position ≤ 31
  pub timer : w.frequency_timer ≤ 2050

-- "Start: everything 0 or off, the wave shift too (not 4)"
abbrev pub fresh : WaveChannel
fresh =
    record {
      volume = 0;
      volume_shift = 0;
      frequency = 0;
      buffer = replicate 16 0;
      buffer_position = 0;
      buffer_position_just_clocked = false;
      frequency_timer = 0;
      channel_enable = false;
      dac_enable = false;
    }

-- the two volume bits of FF1C, and their shift
abbrev pub volume_written : WaveChannel → ℕ → WaveChannel
volume_written w volume = with_volume w (volume % 4) (shift_of (volume % 4))

-- "DAC .. off turns the channel off"
abbrev pub dac_set : WaveChannel → Bool → WaveChannel
dac_set w dac = with_on (with_dac w dac) (w.channel_enable && dac)

-- "Wave RAM with DAC and channel on: byte position/2, whichever address; on DMG only if just clocked"; with either off, the byte of the address
unfoldable pub index_of : WaveChannel → Bool → ℕ → Option ℕ
index_of w dmg offset =
    pick (w.dac_enable && w.channel_enable)
    (pick (dmg && not w.buffer_position_just_clocked) None (Some (w.buffer_position / 2 % 16)))
    (Some (offset % 16))

-- "else reads give FF"
abbrev pub byte_in : List ℕ → Option ℕ → ℕ
byte_in buffer (Some i) = get_or buffer i 0
byte_in buffer None = 0xFF

unfoldable pub byte_at : WaveChannel → Bool → ℕ → ℕ
byte_at w dmg offset = byte_in w.buffer (index_of w dmg offset)

-- "and writes nothing"
abbrev pub stored_in : List ℕ → Option ℕ → ℕ → List ℕ
stored_in buffer (Some i) value = set buffer i value
stored_in buffer None value = buffer

unfoldable pub stored : WaveChannel → Bool → ℕ → ℕ → WaveChannel
stored w dmg offset value = with_buffer w (stored_in w.buffer (index_of w dmg offset) value)

-- "Pulse and wave reload to 2047 - frequency"
abbrev pub reload_of : WaveChannel → ℕ
reload_of w = 2047 - w.frequency

-- one clock of its timer: "A timer at 0 steps its channel and reloads, else loses 1"
unfoldable pub timer_clocked : WaveChannel → WaveChannel
timer_clocked w =
    pick (eqb w.frequency_timer 0)
    (with_position_and_timer w ((w.buffer_position + 1) % 32) true (reload_of w))
    (with_position_and_timer w w.buffer_position false (w.frequency_timer - 1))

-- "The wave is clocked twice; "just clocked" is about the second"
unfoldable pub clocked : WaveChannel → WaveChannel
clocked w = timer_clocked (timer_clocked w)

-- bytes 0..3 become the four from `start` on
unfoldable pub four_from : List ℕ → ℕ → List ℕ
four_from buffer start =
    set (set (set (set buffer 0 (get_or buffer start 0)) 1 (get_or buffer (start + 1) 0)) 2 (get_or buffer (start + 2) 0)) 3 (get_or buffer (start + 3) 0)

-- "i = ((position+1) mod 32)/2. If i < 4, byte 0 becomes byte i; else bytes 0..3 become the aligned four that hold i"
unfoldable pub rewritten : List ℕ → ℕ → List ℕ
rewritten buffer position =
    let i = (position + 1) % 32 / 2 in
    pick (leb 4 i) (four_from buffer (i / 4 * 4)) (set buffer 0 (get_or buffer i 0))

-- "DMG wave trigger at timer 0, first .. DAC and channel need not be on"
unfoldable pub buffer_at_trigger : WaveChannel → Bool → List ℕ
buffer_at_trigger w dmg = pick (dmg && eqb w.frequency_timer 0) (rewritten w.buffer w.buffer_position) w.buffer

-- "A trigger turns the channel on if its DAC is on"; "a wave trigger sets 2050 - frequency and position 0"
unfoldable pub triggered : WaveChannel → Bool → WaveChannel
triggered w dmg =
    record {
      volume = w.volume;
      volume_shift = w.volume_shift;
      frequency = w.frequency;
      buffer = buffer_at_trigger w dmg;
      buffer_position = 0;
      buffer_position_just_clocked = w.buffer_position_just_clocked;
      frequency_timer = 2050 - w.frequency;
      channel_enable = w.channel_enable || w.dac_enable;
      dac_enable = w.dac_enable;
    }

-- "byte position/2, high nibble at even positions"
unfoldable pub nibble_of : WaveChannel → ℕ
nibble_of w =
    let byte = get_or w.buffer (w.buffer_position / 2) 0 in
    pick (eqb (w.buffer_position % 2) 0) (byte / 16 % 16) (byte % 16)

-- "Output: 0 with the channel off .. Wave: .. shifted right"
unfoldable pub output_of : WaveChannel → ℕ
output_of w = pick w.channel_enable (nibble_of w / 2 ^ w.volume_shift) 0

-- "Muted is: channel off, or (not wave) volume 0"
abbrev pub muted_of : WaveChannel → Bool
muted_of w = not w.channel_enable
