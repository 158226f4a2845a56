-- Wave RAM, the wave channel ("the wave shift is stored"), and it with its converter and its length, as bytes. Quotes are request 2026-01's.
-- Assumes nothing.
use Rattle.std.specs.Prelude.{ℕ, ◌+◌, Bool, List, [], ◌∷◌, ◌++◌, get_or, leb}
use Rattle.image_fields.specs.Bytes.{bit_of, is_one, is_flag, be2, two_at, all_of, row}
use Rattle.image_fields.specs.Codes.{shift_fits}
use Rattle.channel_wave.specs.declared.wave_channel.WaveChannel.{WaveChannel}
use Rattle.channel_groups.specs.WaveGroups.{WaveGroup}
use Rattle.image_parts.specs.Groups.{Layout, group_bytes, group_at, group_fits}

-- ---- wave RAM, 16 bytes
unfoldable pub ram_bytes : List ℕ → List ℕ
ram_bytes r = row r 0 0 16

abbrev pub ram_at : List ℕ → ℕ → List ℕ
ram_at s at = get_or s at 0 ∷ row s at 1 15

-- ---- the wave channel, 26 bytes
unfoldable pub wave_channel_bytes : WaveChannel → List ℕ
wave_channel_bytes w =
    w.volume ∷ w.volume_shift ∷ be2 w.frequency ++ ram_bytes w.buffer ++ w.buffer_position
    ∷ bit_of w.buffer_position_just_clocked ∷ be2 w.frequency_timer ++ bit_of w.channel_enable
    ∷ bit_of w.dac_enable ∷ []

abbrev pub wave_channel_at : List ℕ → ℕ → WaveChannel
wave_channel_at s at =
    record {
      volume = get_or s at 0;
      volume_shift = get_or s (at + 1) 0;
      frequency = two_at s (at + 2);
      buffer = ram_at s (at + 4);
      buffer_position = get_or s (at + 20) 0;
      buffer_position_just_clocked = is_one (get_or s (at + 21) 0);
      frequency_timer = two_at s (at + 22);
      channel_enable = is_one (get_or s (at + 24) 0);
      dac_enable = is_one (get_or s (at + 25) 0);
    }

abbrev pub wave_channel_tests : List ℕ → ℕ → List Bool
wave_channel_tests s at =
    leb (get_or s at 0) 3 ∷ shift_fits (get_or s at 0) (get_or s (at + 1) 0) ∷ leb (two_at s (at + 2)) 2047 ∷ leb (get_or s (at + 20) 0) 31
    ∷ is_flag (get_or s (at + 21) 0) ∷ leb (two_at s (at + 22)) 2050 ∷ is_flag (get_or s (at + 24) 0) ∷ is_flag (get_or s (at + 25) 0) ∷ []

abbrev pub wave_channel_fits : List ℕ → ℕ → Bool
wave_channel_fits s at = all_of (wave_channel_tests s at)

abbrev pub wave_layout : Layout WaveChannel
wave_layout = record { size = 26; bytes = wave_channel_bytes; value = wave_channel_at; fits = wave_channel_fits }

-- ---- with converter and length, 37 bytes
abbrev pub wave_group_bytes : WaveGroup → List ℕ
wave_group_bytes = group_bytes wave_layout

abbrev pub wave_group_at : List ℕ → ℕ → WaveGroup
wave_group_at = group_at wave_layout

abbrev pub wave_group_fits : List ℕ → ℕ → Bool
wave_group_fits = group_fits wave_layout 256
