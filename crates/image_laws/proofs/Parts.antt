-- A converter, a length record and an envelope as bytes: each field stands at its own place of the row, so what is written is read back, and what passes the
-- tests is written again as it stood. Assumes nothing.
use Prim.Native.Nat.{ℕ, ◌+◌, ◌≤◌, ◌<◌}
use mathlib.Core.Path.{◌≡◌, refl, sym, ◌∙◌, ap, ap₂, subst}
use mathlib.Core.Bool.{Bool}
use mathlib.Core.List.{List, ◌++◌}
use native.Mathlib.Nat.{add-zero}
use native.Mathlib.Omega.{arith}
use lib.ListN.{get_or, drop}
use lib.Dec.{T, leb, leb→le, le→leb, eqb→eq}
use lib.Ieee.{binary32, to_bits}
use lib.Ieee.Fits.{eq→eqb}
use Rattle.frame.specs.Held as float
use Rattle.frame.specs.declared.converter.Converter.{Converter}
use Rattle.channel_parts.specs.Length as lengths
use Rattle.channel_parts.specs.declared.length.Length.{Length}
use Rattle.channel_parts.specs.Envelope as envelopes
use Rattle.channel_parts.specs.declared.envelope.Envelope.{Envelope}
use Rattle.image_fields.specs.Bytes.{row, bit_of, is_flag, be4, four_at}
use Rattle.image_parts.specs.Parts.{converter_bytes, converter_at, converter_fits}
use Rattle.image_parts.specs.Parts.{length_bytes, length_at, length_tests, length_fits}
use Rattle.image_parts.specs.Parts.{envelope_bytes, envelope_at, envelope_tests, envelope_fits}
use Rattle.image_laws.specs.Images.{Bytewise}
use Rattle.image_laws.proofs.Numbers.{bit_back, bit_most, bit_same, passed, every, row_shift, first_of, nth, part, glue}
use Rattle.image_laws.proofs.Numbers.{two_back, four_back, two_high, two_low, two_same, four_same}
use Rattle.image_laws.proofs.Floats.{charge_back, charge_same, held_pattern, pattern_held}

-- a number that is known to be in its range passes the test
pub within : {n m b : ℕ} → n ≡ m → m ≤ b → T (leb n b)
within {n} {m} {b} e h = le→leb n b (subst (λ (i : ℕ). i ≤ b) (sym e) h)

pub flag_within : {n : ℕ} (b : Bool) → n ≡ bit_of b → T (is_flag n)
flag_within b e = within e (bit_most b)

-- ---- a converter
module _ (s : List ℕ) (at : ℕ) where
  pattern_back : (d : Converter) → float.Held d → row s at 0 4 ≡ converter_bytes d → four_at s at ≡ to_bits binary32 d.capacitor
  unfolding converter_bytes
  pattern_back d k h = four_back s at (to_bits binary32 d.capacitor) h (omega (arith, held_pattern d k))

  pub converter_back : (d : Converter) → float.Held d → row s at 0 4 ≡ converter_bytes d → converter_at s at ≡ d
  converter_back d k h = rw (pattern_back d k h, charge_back d.capacitor k.single (held_pattern d k))

  pub converter_same : Bytewise s → T (converter_fits s at) → converter_bytes (converter_at s at) ≡ row s at 0 4
  unfolding converter_bytes
  converter_same b t = ap be4 (charge_same (four_at s at) (leb→le _ 0x3F80_0000 t)) ∙ four_same s at b

  pub converter_held : T (converter_fits s at) → float.Held (converter_at s at)
  converter_held t = pattern_held (four_at s at) (leb→le _ 0x3F80_0000 t)

  pub converter-fits : (d : Converter) → float.Held d → row s at 0 4 ≡ converter_bytes d → T (converter_fits s at)
  converter-fits d k h = within (pattern_back d k h) (held_pattern d k)

-- ---- a length record
module _ (s : List ℕ) (at : ℕ) (m : ℕ) (M : m < 65536) where
  pub length_back : (l : Length) → lengths.Held m l → row s at 0 7 ≡ length_bytes l → length_at s at ≡ l
  unfolding length_bytes
  length_back l k h =
      rw (
        two_back s at l.max_length (ap (λ (r : List ℕ). row r 0 0 2) h) (omega (arith, k.max)),
        two_back s (at + 2) l.length (part s at 2 2 7 _ refl h) (omega (arith, k.length)),
        two_back s (at + 4) l.current_counter (part s at 4 2 7 _ refl h) (omega (arith, k.counter)),
        nth 6 h,
        bit_back l.counter_decrease_enable,
      )

  pub length_same : Bytewise s → T (length_fits m s at) → length_bytes (length_at s at) ≡ row s at 0 7
  unfolding length_bytes
  length_same b t =
      let h = passed (length_tests m s at) t in
      ap₂ (λ (x y : List ℕ). x ++ y) (two_same s at b)
      (rw (two_high s (at + 2) b, two_low s at 2 b, two_high s (at + 4) b, two_low s at 4 b, bit_same (get_or s (at + 6) 0) (h 3)))

  pub length_held : T (length_fits m s at) → lengths.Held m (length_at s at)
  length_held t =
      let h = passed (length_tests m s at) t in
      record { max = eqb→eq _ m (h 0); length = leb→le _ m (h 1); counter = leb→le _ m (h 2) }

  pub length-fits : (l : Length) → lengths.Held m l → row s at 0 7 ≡ length_bytes l → T (length_fits m s at)
  unfolding length_bytes
  length-fits l k h =
      let max = two_back s at l.max_length (ap (λ (r : List ℕ). row r 0 0 2) h) (omega (arith, k.max)) in
      let stored = two_back s (at + 2) l.length (part s at 2 2 7 _ refl h) (omega (arith, k.length)) in
      let counter = two_back s (at + 4) l.current_counter (part s at 4 2 7 _ refl h) (omega (arith, k.counter)) in
      every (length_tests m s at)
      (eq→eqb (max ∙ k.max), (within stored k.length, (within counter k.counter, (flag_within l.counter_decrease_enable (nth 6 h), tt))))

-- ---- an envelope
module _ (s : List ℕ) (at : ℕ) where
  pub envelope_back : (e : Envelope) → row s at 0 6 ≡ envelope_bytes e → envelope_at s at ≡ e
  unfolding envelope_bytes
  envelope_back e h =
      rw (first_of s at 5 _ h, nth 1 h, nth 2 h, nth 3 h, nth 4 h, nth 5 h, bit_back e.sweep_increase, bit_back e.envelope_can_run)

  pub envelope_same : T (envelope_fits s at) → envelope_bytes (envelope_at s at) ≡ row s at 0 6
  unfolding envelope_bytes
  envelope_same t =
      let h = passed (envelope_tests s at) t in
      rw (add-zero at, bit_same (get_or s (at + 2) 0) (h 2), bit_same (get_or s (at + 4) 0) (h 4))

  pub envelope_held : T (envelope_fits s at) → envelopes.Held (envelope_at s at)
  envelope_held t =
      let h = passed (envelope_tests s at) t in
      record {
        starting = leb→le _ 15 (h 0);
        current = leb→le _ 15 (h 1);
        period = leb→le _ 7 (h 3);
        counter = leb→le _ 8 (h 5);
      }

  pub envelope-fits : (e : Envelope) → envelopes.Held e → row s at 0 6 ≡ envelope_bytes e → T (envelope_fits s at)
  unfolding envelope_bytes
  envelope-fits e k h =
      let increase = flag_within e.sweep_increase (nth 2 h) in
      let run = flag_within e.envelope_can_run (nth 4 h) in
      let counter = within (nth 5 h) k.counter in
      every (envelope_tests s at)
      (within (first_of s at 5 _ h) k.starting, (within (nth 1 h) k.current, (increase, (within (nth 3 h) k.period, (run, (counter, tt))))))

-- ---- a group: a converter, a length record with its maximum, and n bytes of a channel
module _ (s : List ℕ) (at n : ℕ) where
  module _ (d : Converter) (l : Length) (channel : List ℕ) (h : row s at 0 11 ++ row s at 11 n ≡ converter_bytes d ++ length_bytes l ++ channel) where
    pub converter_row : row s at 0 4 ≡ converter_bytes d
    unfolding converter_bytes
    converter_row = ap (λ (r : List ℕ). row r 0 0 4) h

    pub length_row : row s (at + 4) 0 7 ≡ length_bytes l
    unfolding converter_bytes length_bytes
    length_row = row_shift s at 4 0 7 ∙ ap (λ (r : List ℕ). row r 0 4 7) h

    pub channel_row : row s (at + 11) 0 n ≡ channel
    unfolding converter_bytes length_bytes
    channel_row = row_shift s at 11 0 n ∙ ap (drop 11) h

  pub parts_same : (m : ℕ) → m < 65536 → (channel : List ℕ) → Bytewise s → T (converter_fits s at) → T (length_fits m s (at + 4))
      → channel ≡ row s (at + 11) 0 n → converter_bytes (converter_at s at) ++ length_bytes (length_at s (at + 4)) ++ channel ≡ row s at 0 11 ++ row s at 11 n
  parts_same m M channel b converter length e =
      glue (glue (converter_same s at b converter) (length_same s (at + 4) m M b length ∙ row_shift s at 4 0 7)) (e ∙ row_shift s at 11 0 n)
