-- The unit's own fields as bytes: each stands at its own place of the row. Assumes nothing.
use Prim.Native.Nat.{ℕ, ◌+◌, ◌≤◌}
use mathlib.Core.Path.{◌≡◌, refl, sym, ◌∙◌, ap, subst}
use mathlib.Core.List.{List, [], ◌∷◌}
use lib.ListN.{get_or}
use lib.Dec.{T, leb→le, lit≤, lit<}
use lib.Ieee.{binary64, to_bits, of_bits}
use Rattle.clocks.specs.Calls.{K}
use Rattle.clocks.specs.Counter.{Kept}
use Rattle.clocks.specs.Position.{PositionHeld}
use Rattle.image_fields.specs.Bytes.{row, be8, eight_at}
use Rattle.image_fields.specs.Codes.{position_test}
use Rattle.image_fields.specs.Floats.{Measure, is_kept}
use Rattle.apu.specs.declared.Apu.{Apu}
use Rattle.image.specs.Layout.{model}
use Rattle.image.specs.Image.{tail_bytes, tail_tests, tail_fits, unit_from}
use Rattle.image_laws.specs.Images.{Bytewise}
use Rattle.image_laws.proofs.Numbers.{bit_same, passed, every, row_shift, first_row, nth, part, glue}
use Rattle.image_laws.proofs.Numbers.{eight_back, eight_same, eight_lt}
use Rattle.image_laws.proofs.Floats.{counter_lt, counter_same, counter_fits, counter_held}
use Rattle.image_laws.proofs.Codes.{position_same, position_held, position_fits}
use Rattle.image_laws.proofs.Parts.{within, flag_within}

-- N at 44100 is K units of 2 ^ -48
pub measure : Measure 48 K
measure = record { deep = lit≤ tt; some = lit< tt; few = lit≤ tt }

-- what of a unit stands in its tail
pub record TailHeld (u : Apu) : Type 0 where
  pub counter : Kept 48 K u.sample_counter
  pub position : PositionHeld u.sequencer_position
  pub clocks : u.clocks_counter ≤ 1

module _ (s : List ℕ) (tail : ℕ) where
  pub pattern_back : (u : Apu) → TailHeld u → row s tail 0 15 ≡ tail_bytes u → eight_at s (tail + 3) ≡ to_bits binary64 u.sample_counter
  unfolding tail_bytes
  pattern_back u k h = eight_back s (tail + 3) _ (part s tail 3 8 15 _ refl h) (counter_lt 48 K u.sample_counter k.counter)

  pub tail_same : (at : ℕ) → Bytewise s → T (tail_fits s tail) → tail_bytes (unit_from s at tail) ≡ row s tail 0 15
  unfolding tail_bytes
  tail_same at b t =
      let h = passed (tail_tests s tail) t in
      let pattern = ap be8 (counter_same 48 K (eight_at s (tail + 3)) (eight_lt s (tail + 3) b) (h 1)) ∙ eight_same s (tail + 3) b ∙ row_shift s tail 3 0 8 in
      let one : ℕ → List ℕ = λ i. i ∷ [] in
      glue (first_row s tail)
      (ap (λ (r : List ℕ). get_or s (tail + 1) 0 ∷ r)
      (glue (ap one (bit_same (get_or s (tail + 2) 0) (h 0)))
      (glue pattern
      (glue (ap one (bit_same (get_or s (tail + 11) 0) (h 2)))
      (glue (ap one (position_same (get_or s (tail + 12) 0) (h 3)))
      (ap (λ (i : ℕ). get_or s (tail + 13) 0 ∷ i ∷ []) (bit_same (get_or s (tail + model) 0) (h 5))))))))

  pub tail_held : (at : ℕ) → T (tail_fits s tail) → TailHeld (unit_from s at tail)
  tail_held at t =
      let h = passed (tail_tests s tail) t in
      record {
        counter = counter_held 48 K measure (eight_at s (tail + 3)) (h 1);
        position = position_held (get_or s (tail + 12) 0) (h 3);
        clocks = leb→le _ 1 (h 4);
      }

  pub tail-fits : (u : Apu) → TailHeld u → row s tail 0 15 ≡ tail_bytes u → T (tail_fits s tail)
  unfolding tail_bytes
  tail-fits u k h =
      let pattern : T (is_kept 48 K (of_bits binary64 (eight_at s (tail + 3)))) =
      subst (λ (n : ℕ). T (is_kept 48 K (of_bits binary64 n))) (sym (pattern_back u k h)) (counter_fits 48 K measure u.sample_counter k.counter) in
      let position = subst (λ (n : ℕ). T (position_test n)) (sym (nth 12 h)) (position_fits u.sequencer_position k.position) in
      let model = flag_within u.is_dmg (nth 14 h) in
      let bit = flag_within u.divider_sequencer_clock_bit (nth 11 h) in
      every (tail_tests s tail) (flag_within u.power (nth 2 h), (pattern, (bit, (position, (within (nth 13 h) k.clocks, (model, tt))))))
