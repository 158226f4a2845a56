-- All of a unit as bytes, what the bytes from a place on say, and whether they are those of a unit in its ranges. Quotes are request 2026-01's.
-- Assumes nothing.
use Rattle.std.specs.Prelude.{ℕ, ◌+◌, Bool, List, [], ◌∷◌, ◌++◌, get_or, eqb}
use Rattle.std.specs.Float.{binary64}
use Rattle.std.specs.Float.Ieee.{to_bits, of_bits}
use Rattle.clocks.specs.Calls.{K}
use Rattle.image_fields.specs.Bytes.{bit_of, is_one, is_flag, be2, be8, two_at, eight_at, all_of}
use Rattle.image_fields.specs.Codes.{position_byte, position_of, position_test}
use Rattle.image_fields.specs.Floats.{is_kept, counter_of}
use Rattle.image_parts.specs.Pulse.{pulse_group_bytes, pulse_group_at, pulse_group_fits}
use Rattle.image_parts.specs.Wave.{wave_group_bytes, wave_group_at, wave_group_fits}
use Rattle.image_parts.specs.Noise.{noise_group_bytes, noise_group_at, noise_group_fits}
use Rattle.apu.specs.declared.Apu.{Apu}
use Rattle.image.specs.Layout.{version, rest_length, pulse1_base, pulse2_base, wave_base, wave_model, noise_base, tail_base, model}

-- "Byte 0 is version 1, then the length of the rest in two bytes"
abbrev pub head_bytes : List ℕ
head_bytes = version ∷ be2 rest_length

-- the unit's own fields: FF24, FF25, power, "floats as patterns", the divider's bit, "-1 as FF", half-clocks, "the model (1 DMG)"
unfoldable pub tail_bytes : Apu → List ℕ
tail_bytes u =
    u.channels_control ∷ u.channels_selection ∷ bit_of u.power ∷ be8 (to_bits binary64 u.sample_counter)
    ++ bit_of u.divider_sequencer_clock_bit ∷ position_byte u.sequencer_position ∷ u.clocks_counter ∷ bit_of u.is_dmg ∷ []

-- "then every field in the Rust structures' order": the wave channel ends in its model byte
unfoldable pub unit_bytes : Apu → List ℕ
unit_bytes u =
    head_bytes ++ pulse_group_bytes u.pulse1 ++ pulse_group_bytes u.pulse2 ++ wave_group_bytes u.wave
    ++ bit_of u.is_dmg ∷ noise_group_bytes u.noise ++ tail_bytes u

-- the unit that bytes from a place on say, its own fields from `tail` on
abbrev pub unit_from : List ℕ → ℕ → ℕ → Apu
unit_from s at tail =
    record {
      pulse1 = pulse_group_at s (at + pulse1_base);
      pulse2 = pulse_group_at s (at + pulse2_base);
      wave = wave_group_at s (at + wave_base);
      noise = noise_group_at s (at + noise_base);
      channels_control = get_or s tail 0;
      channels_selection = get_or s (tail + 1) 0;
      power = is_one (get_or s (tail + 2) 0);
      sample_counter = counter_of 48 K (eight_at s (tail + 3));
      divider_sequencer_clock_bit = is_one (get_or s (tail + 11) 0);
      sequencer_position = position_of (get_or s (tail + 12) 0);
      clocks_counter = get_or s (tail + 13) 0;
      is_dmg = is_one (get_or s (tail + model) 0);
    }

abbrev pub unit_at : List ℕ → ℕ → Apu
unit_at s at = unit_from s at (at + tail_base)

-- "all fields lie in document 01's ranges .. no sign bit in any float, .. the sample counter a whole number of 2^-48 below N": the unit's own
abbrev pub tail_tests : List ℕ → ℕ → List Bool
tail_tests s at =
    is_flag (get_or s (at + 2) 0)
    ∷ is_kept 48 K (of_bits binary64 (eight_at s (at + 3)))
    ∷ is_flag (get_or s (at + 11) 0)
    ∷ position_test (get_or s (at + 12) 0)
    ∷ is_flag (get_or s (at + 13) 0)
    ∷ is_flag (get_or s (at + model) 0)
    ∷ []

abbrev pub tail_fits : List ℕ → ℕ → Bool
tail_fits s at = all_of (tail_tests s at)

-- "version, length field .. are right and all fields lie in document 01's ranges, .. both model bytes equal"
abbrev pub unit_tests : List ℕ → ℕ → List Bool
unit_tests s at =
    eqb (get_or s at 0) version
    ∷ eqb (two_at s (at + 1)) rest_length
    ∷ pulse_group_fits s (at + pulse1_base)
    ∷ pulse_group_fits s (at + pulse2_base)
    ∷ wave_group_fits s (at + wave_base)
    ∷ eqb (get_or s (at + wave_model) 0) (get_or s (at + tail_base + model) 0)
    ∷ noise_group_fits s (at + noise_base)
    ∷ tail_fits s (at + tail_base)
    ∷ []

abbrev pub unit_fits : List ℕ → ℕ → Bool
unit_fits s at = all_of (unit_tests s at)
