-- A whole image there and back: every part by its own laws, each from its base on. Assumes nothing.
use Prim.Native.Nat.{ℕ, ◌+◌}
use mathlib.Core.Path.{◌≡◌, refl, sym, ◌∙◌, ap}
use mathlib.Core.List.{List, [], ◌∷◌}
use lib.ListN.{length, get_or}
use lib.Dec.{T, eqb→eq, lit<}
use lib.Ieee.Fits.{eq→eqb}
use Rattle.clocks.specs.Calls.{K}
use Rattle.image_fields.specs.Bytes.{row, bit_of, be2, two_at}
use Rattle.image_parts.specs.Parts.{converter_bytes, length_bytes, envelope_bytes}
use Rattle.image_parts.specs.Groups.{group_bytes}
use Rattle.image_parts.specs.Pulse.{sweep_bytes, pulse_channel_bytes, pulse_group_bytes}
use Rattle.image_parts.specs.Wave.{ram_bytes, wave_channel_bytes, wave_group_bytes}
use Rattle.image_parts.specs.Noise.{noise_channel_bytes, noise_group_bytes}
use Rattle.apu.specs.Held.{Whole}
use Rattle.apu.specs.declared.Apu.{Apu}
use Rattle.image.specs.Layout.{version, rest_length, image_length, pulse1_base, pulse2_base, wave_base, wave_model, noise_base, tail_base, model}
use Rattle.image.specs.Image.{tail_bytes, unit_bytes, unit_at, tail_tests, unit_tests, unit_fits}
use Rattle.image_laws.specs.Images.{Bytewise}
use Rattle.image_laws.proofs.Numbers.{bit_back, bit_same, passed, every, row_shift, first_of, first_row, nth, part, glue}
use Rattle.image_laws.proofs.Numbers.{two_back, two_same}
use Rattle.image_laws.proofs.Floats.{counter_back}
use Rattle.image_laws.proofs.Codes.{position_back}
use Rattle.image_laws.proofs.Groups.{group_back, group_same, group_held, group_float_held, group-fits}
use Rattle.image_laws.proofs.Pulse.{pulse_laws}
use Rattle.image_laws.proofs.Wave.{wave_laws}
use Rattle.image_laws.proofs.Noise.{noise_laws}
use Rattle.image_laws.proofs.Tail.{measure, TailHeld, pattern_back, tail_same, tail_held, tail-fits}

-- of a whole unit, what stands in its tail
in_tail : (u : Apu) → Whole u → TailHeld u
in_tail u k = record { counter = k.floats.counter; position = k.held.position; clocks = k.held.clocks }

-- where each part stands in a row that is a unit's bytes
pub record Rows (s : List ℕ) (at : ℕ) (u : Apu) : Type 0 where
  version : get_or s at 0 ≡ version
  rest : row s (at + 1) 0 2 ≡ be2 rest_length
  pulse1 : row s (at + pulse1_base) 0 41 ≡ pulse_group_bytes u.pulse1
  pulse2 : row s (at + pulse2_base) 0 41 ≡ pulse_group_bytes u.pulse2
  wave : row s (at + wave_base) 0 37 ≡ wave_group_bytes u.wave
  model : get_or s (at + wave_model) 0 ≡ bit_of u.is_dmg
  noise : row s (at + noise_base) 0 26 ≡ noise_group_bytes u.noise
  tail : row s (at + tail_base) 0 15 ≡ tail_bytes u

pub rows : (s : List ℕ) (at : ℕ) (u : Apu) → row s at 0 image_length ≡ unit_bytes u → Rows s at u
unfolding unit_bytes tail_bytes converter_bytes length_bytes envelope_bytes sweep_bytes pulse_channel_bytes ram_bytes
    wave_channel_bytes noise_channel_bytes group_bytes
rows s at u h =
    record {
      version = first_of s at 163 _ h;
      rest = part s at 1 2 image_length _ refl h;
      pulse1 = part s at pulse1_base 41 image_length _ refl h;
      pulse2 = part s at pulse2_base 41 image_length _ refl h;
      wave = part s at wave_base 37 image_length _ refl h;
      model = nth wave_model h;
      noise = part s at noise_base 26 image_length _ refl h;
      tail = part s at tail_base 15 image_length _ refl h;
    }

pub unit_long : (u : Apu) → length (unit_bytes u) ≡ image_length
unfolding unit_bytes tail_bytes converter_bytes length_bytes envelope_bytes sweep_bytes pulse_channel_bytes ram_bytes
    wave_channel_bytes noise_channel_bytes group_bytes
unit_long u = refl

module _ (s : List ℕ) (at : ℕ) where
  abbrev tail : ℕ
  tail = at + tail_base

  pub unit_back : (u : Apu) → Whole u → Rows s at u → unit_at s at ≡ u
  unfolding tail_bytes
  unit_back u k r =
      rw (
        group_back pulse_laws 64 (lit< tt) s (at + pulse1_base) u.pulse1 k.held.pulse1 k.floats.pulse1 r.pulse1,
        group_back pulse_laws 64 (lit< tt) s (at + pulse2_base) u.pulse2 k.held.pulse2 k.floats.pulse2 r.pulse2,
        group_back wave_laws 256 (lit< tt) s (at + wave_base) u.wave k.held.wave k.floats.wave r.wave,
        group_back noise_laws 64 (lit< tt) s (at + noise_base) u.noise k.held.noise k.floats.noise r.noise,
        first_of s tail 14 _ r.tail,
        nth 1 r.tail,
        nth 2 r.tail,
        pattern_back s tail u (in_tail u k) r.tail,
        counter_back 48 K measure u.sample_counter k.floats.counter,
        nth 11 r.tail,
        nth 12 r.tail,
        position_back u.sequencer_position k.held.position,
        nth 13 r.tail,
        nth 14 r.tail,
        bit_back u.power,
        bit_back u.divider_sequencer_clock_bit,
        bit_back u.is_dmg,
      )

  pub unit-fits : (u : Apu) → Whole u → Rows s at u → T (unit_fits s at)
  unfolding tail_bytes
  unit-fits u k r =
      let one = group-fits pulse_laws 64 (lit< tt) s (at + pulse1_base) u.pulse1 k.held.pulse1 k.floats.pulse1 r.pulse1 in
      let two = group-fits pulse_laws 64 (lit< tt) s (at + pulse2_base) u.pulse2 k.held.pulse2 k.floats.pulse2 r.pulse2 in
      let wave = group-fits wave_laws 256 (lit< tt) s (at + wave_base) u.wave k.held.wave k.floats.wave r.wave in
      let noise = group-fits noise_laws 64 (lit< tt) s (at + noise_base) u.noise k.held.noise k.floats.noise r.noise in
      let models = eq→eqb (r.model ∙ sym (nth model r.tail)) in
      let rest = eq→eqb (two_back s (at + 1) rest_length r.rest (lit< tt)) in
      every (unit_tests s at) (eq→eqb r.version, (rest, (one, (two, (wave, (models, (noise, (tail-fits s tail u (in_tail u k) r.tail, tt))))))))

  pub unit_whole : T (unit_fits s at) → Whole (unit_at s at)
  unit_whole t =
      let h = passed (unit_tests s at) t in
      let k = tail_held s tail at (h 7) in
      record {
        held = record {
          pulse1 = group_held pulse_laws 64 (lit< tt) s (at + pulse1_base) (h 2);
          pulse2 = group_held pulse_laws 64 (lit< tt) s (at + pulse2_base) (h 3);
          wave = group_held wave_laws 256 (lit< tt) s (at + wave_base) (h 4);
          noise = group_held noise_laws 64 (lit< tt) s (at + noise_base) (h 6);
          position = k.position;
          clocks = k.clocks;
        };
        floats = record {
          pulse1 = group_float_held pulse_laws 64 (lit< tt) s (at + pulse1_base) (h 2);
          pulse2 = group_float_held pulse_laws 64 (lit< tt) s (at + pulse2_base) (h 3);
          wave = group_float_held wave_laws 256 (lit< tt) s (at + wave_base) (h 4);
          noise = group_float_held noise_laws 64 (lit< tt) s (at + noise_base) (h 6);
          counter = k.counter;
        };
      }

  pub unit_same : Bytewise s → T (unit_fits s at) → unit_bytes (unit_at s at) ≡ row s at 0 image_length
  unfolding unit_bytes tail_bytes converter_bytes length_bytes envelope_bytes sweep_bytes pulse_channel_bytes ram_bytes
      wave_channel_bytes noise_channel_bytes group_bytes
  unit_same b t =
      let h = passed (unit_tests s at) t in
      let one : ℕ → List ℕ = λ i. i ∷ [] in
      let last = passed (tail_tests s tail) (h 7) 5 in
      let models = bit_same (get_or s (tail + model) 0) last ∙ sym (eqb→eq (get_or s (at + wave_model) 0) (get_or s (tail + model) 0) (h 5)) in
      glue (ap one (sym (eqb→eq (get_or s at 0) version (h 0))) ∙ first_row s at)
      (glue (ap be2 (sym (eqb→eq (two_at s (at + 1)) rest_length (h 1))) ∙ two_same s (at + 1) b ∙ row_shift s at 1 0 2)
      (glue (group_same pulse_laws 64 (lit< tt) s (at + pulse1_base) b (h 2) ∙ row_shift s at pulse1_base 0 41)
      (glue (group_same pulse_laws 64 (lit< tt) s (at + pulse2_base) b (h 3) ∙ row_shift s at pulse2_base 0 41)
      (glue (group_same wave_laws 256 (lit< tt) s (at + wave_base) b (h 4) ∙ row_shift s at wave_base 0 37)
      (glue (ap one models)
      (glue (group_same noise_laws 64 (lit< tt) s (at + noise_base) b (h 6) ∙ row_shift s at noise_base 0 26)
      (tail_same s tail at b (h 7) ∙ row_shift s at tail_base 0 15)))))))
