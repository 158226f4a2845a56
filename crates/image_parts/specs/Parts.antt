-- What the groups share, as bytes: "every field in the Rust structures' order .. numbers big-endian in their own width". Of each part `..Bytes` is what is
-- written, `..At` what the bytes from a place on say, and `..Fits` whether "all fields lie in document 01's ranges". Quotes are request 2026-01's.
-- Assumes nothing.
use Rattle.std.specs.Prelude.{ℕ, ◌+◌, Bool, List, [], ◌∷◌, ◌++◌, get_or, eqb, leb}
use Rattle.std.specs.Float.{binary32}
use Rattle.std.specs.Float.Ieee.{to_bits}
use Rattle.image_fields.specs.Bytes.{bit_of, is_one, is_flag, be2, be4, two_at, four_at, all_of}
use Rattle.image_fields.specs.Floats.{is_charge, charge_of}
use Rattle.frame.specs.declared.converter.Converter.{Converter}
use Rattle.channel_parts.specs.declared.length.Length.{Length}
use Rattle.channel_parts.specs.declared.envelope.Envelope.{Envelope}

-- ---- "floats as patterns": a capacitor, 4 bytes
unfoldable pub converter_bytes : Converter → List ℕ
converter_bytes d = be4 (to_bits binary32 d.capacitor)

abbrev pub converter_at : List ℕ → ℕ → Converter
converter_at s at = record { capacitor = charge_of (four_at s at) }

abbrev pub converter_fits : List ℕ → ℕ → Bool
converter_fits s at = is_charge (four_at s at)

-- ---- "stored lengths from 0 to the maximum, maxima 64, 64, 256, 64": 7 bytes
unfoldable pub length_bytes : Length → List ℕ
length_bytes l = be2 l.max_length ++ be2 l.length ++ be2 l.current_counter ++ bit_of l.counter_decrease_enable ∷ []

abbrev pub length_at : List ℕ → ℕ → Length
length_at s at =
    record {
      max_length = two_at s at;
      length = two_at s (at + 2);
      current_counter = two_at s (at + 4);
      counter_decrease_enable = is_one (get_or s (at + 6) 0);
    }

abbrev pub length_tests : ℕ → List ℕ → ℕ → List Bool
length_tests m s at =
    eqb (two_at s at) m ∷ leb (two_at s (at + 2)) m ∷ leb (two_at s (at + 4)) m ∷ is_flag (get_or s (at + 6) 0) ∷ []

abbrev pub length_fits : ℕ → List ℕ → ℕ → Bool
length_fits m s at = all_of (length_tests m s at)

-- ---- an envelope, 6 bytes
unfoldable pub envelope_bytes : Envelope → List ℕ
envelope_bytes e =
    e.starting_volume ∷ e.current_volume ∷ bit_of e.sweep_increase ∷ e.period ∷ bit_of e.envelope_can_run ∷ e.counter ∷ []

abbrev pub envelope_at : List ℕ → ℕ → Envelope
envelope_at s at =
    record {
      starting_volume = get_or s at 0;
      current_volume = get_or s (at + 1) 0;
      sweep_increase = is_one (get_or s (at + 2) 0);
      period = get_or s (at + 3) 0;
      envelope_can_run = is_one (get_or s (at + 4) 0);
      counter = get_or s (at + 5) 0;
    }

abbrev pub envelope_tests : List ℕ → ℕ → List Bool
envelope_tests s at =
    leb (get_or s at 0) 15 ∷ leb (get_or s (at + 1) 0) 15 ∷ is_flag (get_or s (at + 2) 0) ∷ leb (get_or s (at + 3) 0) 7
    ∷ is_flag (get_or s (at + 4) 0) ∷ leb (get_or s (at + 5) 0) 8 ∷ []

abbrev pub envelope_fits : List ℕ → ℕ → Bool
envelope_fits s at = all_of (envelope_tests s at)
