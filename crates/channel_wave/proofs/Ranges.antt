-- What the rules make of a wave channel that holds its ranges holds them again, a law for each definition; and outputs are nibbles. Assumes nothing.
use mathlib.Core.Path.{◌≡◌, refl}
use mathlib.Core.Logic.{inl, inr}
use mathlib.Core.Bool.{Bool}
use mathlib.Core.List.{List}
use Prim.Native.Nat.{ℕ, ◌≤◌, ◌<◌}
use native.Mathlib.Nat.{le_trans}
use native.Mathlib.Omega.{arith}
use lib.Pow.{shr_le}
use lib.ListN.{length, length-set, length-replicate}
use Rattle.std.specs.Prelude.{Option, Some, None}
use Rattle.ground.proofs.Cases.{both_ways}
use Rattle.channel_wave.specs.Wave as wave
use Rattle.channel_wave.specs.With as with
use Rattle.channel_wave.specs.declared.wave_channel.WaveChannel.{WaveChannel}

-- the stored shift, whichever of the two it is
shift_table : (v : ℕ) → wave.shift_of v ≤ 4
unfolding wave.shift_of
shift_table v =
    both_ways (λ (n : ℕ). n ≤ 4) _ (omega arith)
    (both_ways (λ (n : ℕ). n ≤ 4) _ (omega arith)
    (both_ways (λ (n : ℕ). n ≤ 4) _ (omega arith) (omega arith)))

shift_of_held : (v s : ℕ) → wave.ShiftHeld v s → s ≤ 4
shift_of_held v s (inl e) = rw e (shift_table v)
shift_of_held v s (inr e) = rw e.1 (omega arith)

pub shift_le : (w : WaveChannel) → wave.Held w → w.volume_shift ≤ 4
shift_le w h = shift_of_held w.volume w.volume_shift h.shift

-- an access lands within wave RAM
abbrev pub Lands : Option ℕ → Type 0
Lands (Some i) = i < 16
Lands None = Unit

pub index_lands : (w : WaveChannel) (dmg : Bool) (offset : ℕ) → Lands (wave.index_of w dmg offset)
unfolding wave.index_of
index_lands w dmg offset = both_ways Lands _ (both_ways Lands _ tt (omega arith)) (omega arith)

pub wave_fresh_held : wave.Held wave.fresh
wave_fresh_held =
    record {
      volume = omega arith;
      shift = inr (refl, refl);
      frequency = omega arith;
      buffer = length-replicate {A = ℕ} 16 0;
      position = omega arith;
      timer = omega arith;
    }

module _ (w : WaveChannel) (h : wave.Held w) where
  -- a row of fields written anew
  volume_frequency_ram_held : (v s f : ℕ) (b : List ℕ) → v ≤ 3 → wave.ShiftHeld v s → f ≤ 2047 → length b ≡ 16
      → wave.Held (with.with_volume_frequency_and_ram w v s f b)
  volume_frequency_ram_held v s f b hv hs hf hb = record { volume = hv; shift = hs; frequency = hf; buffer = hb; position = h.position; timer = h.timer }

  position_timer_held : (position : ℕ) (just : Bool) (timer : ℕ) → position ≤ 31 → timer ≤ 2050 → wave.Held (with.with_position_and_timer w position just timer)
  position_timer_held position just timer a b =
      record { volume = h.volume; shift = h.shift; frequency = h.frequency; buffer = h.buffer; position = a; timer = b }

  on_dac_held : (on dac : Bool) → wave.Held (with.with_on_and_dac w on dac)
  on_dac_held on dac =
      record { volume = h.volume; shift = h.shift; frequency = h.frequency; buffer = h.buffer; position = h.position; timer = h.timer }

  -- and one field of a row
  pub wave_volume_held : (v : ℕ) → wave.Held (wave.volume_written w v)
  wave_volume_held v = volume_frequency_ram_held _ _ _ _ (omega arith) (inl refl) h.frequency h.buffer

  pub wave_frequency_held : (f : ℕ) → f ≤ 2047 → wave.Held (with.with_frequency w f)
  wave_frequency_held f k = volume_frequency_ram_held _ _ f _ h.volume h.shift k h.buffer

  wave_buffer_held : (b : List ℕ) → length b ≡ 16 → wave.Held (with.with_buffer w b)
  wave_buffer_held b k = volume_frequency_ram_held _ _ _ b h.volume h.shift h.frequency k

  pub wave_position_held : wave.Held (with.with_position w 0)
  wave_position_held = position_timer_held 0 _ _ (omega arith) h.timer

  pub wave_on_held : (on : Bool) → wave.Held (with.with_on w on)
  wave_on_held on = on_dac_held on _

  pub wave_dac_held : (dac : Bool) → wave.Held (wave.dac_set w dac)
  wave_dac_held dac = on_dac_held _ dac

  stored_length : (i : Option ℕ) (v : ℕ) → length (wave.stored_in w.buffer i v) ≡ 16
  stored_length (Some i) v = simp length-set h.buffer
  stored_length None v = h.buffer

  pub wave_stored_held : (dmg : Bool) (offset v : ℕ) → wave.Held (wave.stored w dmg offset v)
  unfolding wave.stored
  wave_stored_held dmg offset v = wave_buffer_held _ (stored_length (wave.index_of w dmg offset) v)

  pub wave_timer_held : wave.Held (wave.timer_clocked w)
  unfolding wave.timer_clocked
  wave_timer_held = both_ways wave.Held _ (position_timer_held _ _ _ (omega arith) (omega arith)) (position_timer_held _ _ _ h.position (omega arith))

  trigger-length : (dmg : Bool) → length (wave.buffer_at_trigger w dmg) ≡ 16
  unfolding wave.buffer_at_trigger wave.rewritten wave.four_from
  trigger-length dmg =
      both_ways (λ (b : List ℕ). length b ≡ 16) _
      (both_ways (λ (b : List ℕ). length b ≡ 16) _ (simp length-set h.buffer) (simp length-set h.buffer))
      h.buffer

  pub wave_triggered_held : (dmg : Bool) → wave.Held (wave.triggered w dmg)
  unfolding wave.triggered
  wave_triggered_held dmg =
      record {
        volume = h.volume;
        shift = h.shift;
        frequency = h.frequency;
        buffer = trigger-length dmg;
        position = omega arith;
        timer = omega arith;
      }

pub wave_clocked_held : (w : WaveChannel) → wave.Held w → wave.Held (wave.clocked w)
unfolding wave.clocked
wave_clocked_held w h = wave_timer_held _ (wave_timer_held w h)

nibble_le : (w : WaveChannel) → wave.nibble_of w ≤ 15
unfolding wave.nibble_of
nibble_le w = both_ways (λ (n : ℕ). n ≤ 15) _ (omega arith) (omega arith)

pub wave_output_le : (w : WaveChannel) → wave.output_of w ≤ 15
unfolding wave.output_of
wave_output_le w = both_ways (λ (n : ℕ). n ≤ 15) _ (le_trans (shr_le (wave.nibble_of w) w.volume_shift) (nibble_le w)) (omega arith)
