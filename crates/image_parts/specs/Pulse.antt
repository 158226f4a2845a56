-- A sweep, a pulse channel ("without .. duty rows"), and it with its converter and its length, as bytes. Quotes are request 2026-01's. Assumes nothing.
use Rattle.std.specs.Prelude.{ℕ, ◌+◌, Bool, List, [], ◌∷◌, ◌++◌, get_or, leb}
use Rattle.image_fields.specs.Bytes.{bit_of, is_one, is_flag, be2, be8, two_at, eight_at, all_of}
use Rattle.channel_pulse.specs.declared.sweep.Sweep.{Sweep}
use Rattle.channel_pulse.specs.declared.pulse_channel.PulseChannel.{PulseChannel}
use Rattle.channel_groups.specs.PulseGroups.{PulseGroup}
use Rattle.image_parts.specs.Parts.{envelope_bytes, envelope_at, envelope_fits}
use Rattle.image_parts.specs.Groups.{Layout, group_bytes, group_at, group_fits}

-- ---- a sweep, 8 bytes
unfoldable pub sweep_bytes : Sweep → List ℕ
sweep_bytes w =
    w.period ∷ w.current_time ∷ bit_of w.internal_enable ∷ be2 w.frequency_shadow ++ bit_of w.negate ∷ w.shift_n
    ∷ bit_of w.calculation_happened ∷ []

abbrev pub sweep_at : List ℕ → ℕ → Sweep
sweep_at s at =
    record {
      period = get_or s at 0;
      current_time = get_or s (at + 1) 0;
      internal_enable = is_one (get_or s (at + 2) 0);
      frequency_shadow = two_at s (at + 3);
      negate = is_one (get_or s (at + 5) 0);
      shift_n = get_or s (at + 6) 0;
      calculation_happened = is_one (get_or s (at + 7) 0);
    }

abbrev pub sweep_tests : List ℕ → ℕ → List Bool
sweep_tests s at =
    leb (get_or s at 0) 7 ∷ leb (get_or s (at + 1) 0) 8 ∷ is_flag (get_or s (at + 2) 0) ∷ leb (two_at s (at + 3)) 2047
    ∷ is_flag (get_or s (at + 5) 0) ∷ leb (get_or s (at + 6) 0) 7 ∷ is_flag (get_or s (at + 7) 0) ∷ []

abbrev pub sweep_fits : List ℕ → ℕ → Bool
sweep_fits s at = all_of (sweep_tests s at)

-- ---- a pulse channel, 30 bytes; "`usize` eight bytes"
unfoldable pub pulse_channel_bytes : PulseChannel → List ℕ
pulse_channel_bytes p =
    sweep_bytes p.sweep ++ be8 p.sequencer_position ++ p.duty ∷ envelope_bytes p.envelope ++ be2 p.frequency
    ++ be2 p.frequency_timer
    ++ bit_of p.channel_enabled ∷ bit_of p.first_trigger ∷ bit_of p.dac_enable ∷ []

abbrev pub pulse_channel_at : List ℕ → ℕ → PulseChannel
pulse_channel_at s at =
    record {
      sweep = sweep_at s at;
      sequencer_position = eight_at s (at + 8);
      duty = get_or s (at + 16) 0;
      envelope = envelope_at s (at + 17);
      frequency = two_at s (at + 23);
      frequency_timer = two_at s (at + 25);
      channel_enabled = is_one (get_or s (at + 27) 0);
      first_trigger = is_one (get_or s (at + 28) 0);
      dac_enable = is_one (get_or s (at + 29) 0);
    }

abbrev pub pulse_channel_tests : List ℕ → ℕ → List Bool
pulse_channel_tests s at =
    sweep_fits s at ∷ leb (eight_at s (at + 8)) 7 ∷ leb (get_or s (at + 16) 0) 3 ∷ envelope_fits s (at + 17)
    ∷ leb (two_at s (at + 23)) 2047 ∷ leb (two_at s (at + 25)) 2047 ∷ is_flag (get_or s (at + 27) 0) ∷ is_flag (get_or s (at + 28) 0)
    ∷ is_flag (get_or s (at + 29) 0) ∷ []

abbrev pub pulse_channel_fits : List ℕ → ℕ → Bool
pulse_channel_fits s at = all_of (pulse_channel_tests s at)

abbrev pub pulse_layout : Layout PulseChannel
pulse_layout = record { size = 30; bytes = pulse_channel_bytes; value = pulse_channel_at; fits = pulse_channel_fits }

-- ---- with converter and length, 41 bytes
abbrev pub pulse_group_bytes : PulseGroup → List ℕ
pulse_group_bytes = group_bytes pulse_layout

abbrev pub pulse_group_at : List ℕ → ℕ → PulseGroup
pulse_group_at = group_at pulse_layout

abbrev pub pulse_group_fits : List ℕ → ℕ → Bool
pulse_group_fits = group_fits pulse_layout 64
