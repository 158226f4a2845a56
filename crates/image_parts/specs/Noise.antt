-- The noise channel, and it with its converter and its length, as bytes. Assumes nothing.
use Rattle.std.specs.Prelude.{ℕ, ◌+◌, Bool, List, [], ◌∷◌, ◌++◌, get_or, leb}
use Rattle.image_fields.specs.Bytes.{bit_of, is_one, is_flag, be2, two_at, all_of}
use Rattle.channel_noise.specs.declared.noise_channel.NoiseChannel.{NoiseChannel}
use Rattle.channel_groups.specs.NoiseGroups.{NoiseGroup}
use Rattle.image_parts.specs.Parts.{envelope_bytes, envelope_at, envelope_fits}
use Rattle.image_parts.specs.Groups.{Layout, group_bytes, group_at, group_fits}

-- ---- the noise channel, 15 bytes
unfoldable pub noise_channel_bytes : NoiseChannel → List ℕ
noise_channel_bytes n =
    n.shift_clock_frequency ∷ bit_of n.step_mode_7_bits ∷ n.divisor_code ∷ be2 n.frequency_timer
    ++ be2 n.feedback_shift_register ++ envelope_bytes n.envelope ++ bit_of n.channel_enabled ∷ bit_of n.dac_enable
    ∷ []

abbrev pub noise_channel_at : List ℕ → ℕ → NoiseChannel
noise_channel_at s at =
    record {
      shift_clock_frequency = get_or s at 0;
      step_mode_7_bits = is_one (get_or s (at + 1) 0);
      divisor_code = get_or s (at + 2) 0;
      frequency_timer = two_at s (at + 3);
      feedback_shift_register = two_at s (at + 5);
      envelope = envelope_at s (at + 7);
      channel_enabled = is_one (get_or s (at + 13) 0);
      dac_enable = is_one (get_or s (at + 14) 0);
    }

abbrev pub noise_channel_tests : List ℕ → ℕ → List Bool
noise_channel_tests s at =
    leb (get_or s at 0) 15 ∷ is_flag (get_or s (at + 1) 0) ∷ leb (get_or s (at + 2) 0) 7 ∷ leb (two_at s (at + 3)) 16383
    ∷ leb (two_at s (at + 5)) 0x7FFF ∷ envelope_fits s (at + 7) ∷ is_flag (get_or s (at + 13) 0) ∷ is_flag (get_or s (at + 14) 0) ∷ []

abbrev pub noise_channel_fits : List ℕ → ℕ → Bool
noise_channel_fits s at = all_of (noise_channel_tests s at)

abbrev pub noise_layout : Layout NoiseChannel
noise_layout = record { size = 15; bytes = noise_channel_bytes; value = noise_channel_at; fits = noise_channel_fits }

-- ---- with converter and length, 26 bytes
abbrev pub noise_group_bytes : NoiseGroup → List ℕ
noise_group_bytes = group_bytes noise_layout

abbrev pub noise_group_at : List ℕ → ℕ → NoiseGroup
noise_group_at = group_at noise_layout

abbrev pub noise_group_fits : List ℕ → ℕ → Bool
noise_group_fits = group_fits noise_layout 64
