-- Wave RAM, the wave channel, and it with its converter and its length record, as bytes: by place as the parts, each part by its own laws; wave RAM is a row
-- of sixteen. Assumes nothing.
use Prim.Native.Nat.{ℕ, ◌+◌}
use mathlib.Core.Path.{◌≡◌, refl, sym, ◌∙◌, ap}
use mathlib.Core.List.{List, [], ◌∷◌}
use native.Mathlib.Nat.{add-zero}
use native.Mathlib.Omega.{arith}
use lib.ListN.{length, get_or}
use lib.Dec.{T, leb→le}
use Rattle.channel_wave.specs.Wave as channels
use Rattle.channel_wave.specs.declared.wave_channel.WaveChannel.{WaveChannel}
use Rattle.channel_groups.specs.WaveGroups as groups
use Rattle.channel_groups.specs.WaveGroups.{WaveGroup}
use Rattle.image_fields.specs.Bytes.{row}
use Rattle.image_fields.specs.Codes.{shift_fits}
use Rattle.image_parts.specs.Parts.{converter_bytes, length_bytes}
use Rattle.image_parts.specs.Wave.{ram_bytes, ram_at, wave_channel_bytes, wave_channel_at, wave_channel_tests, wave_channel_fits}
use Rattle.image_parts.specs.Wave.{wave_layout, wave_group_bytes}
use Rattle.image_parts.specs.Groups.{group_bytes}
use Rattle.image_laws.specs.Images.{Bytewise}
use Rattle.image_laws.proofs.Numbers.{bit_back, bit_same, passed, every, row_shift, row_all, first_of, first_row, nth, part, glue}
use Rattle.image_laws.proofs.Numbers.{two_back, two_same}
use Rattle.image_laws.proofs.Codes.{shift_held, shift_fits_lem}
use Rattle.image_laws.proofs.Parts.{within, flag_within}
use Rattle.image_laws.proofs.Groups.{ChannelLaws}

-- ---- wave RAM
module _ (s : List ℕ) (at : ℕ) where
  pub ram_row : ram_at s at ≡ row s at 0 16
  ram_row = ap (λ (i : ℕ). get_or s i 0 ∷ row s at 1 15) (sym (add-zero at))

  pub ram_back : (r : List ℕ) → length r ≡ 16 → row s at 0 16 ≡ ram_bytes r → ram_at s at ≡ r
  unfolding ram_bytes
  ram_back r k h = ram_row ∙ h ∙ ap (λ (n : ℕ). row r 0 0 n) (sym k) ∙ row_all r

  pub ram_same : ram_bytes (ram_at s at) ≡ row s at 0 16
  unfolding ram_bytes
  ram_same = ram_row

  pub ram_held : length (ram_at s at) ≡ 16
  ram_held = refl

-- ---- the wave channel
module _ (s : List ℕ) (at : ℕ) where
  pub wave_channel_back : (w : WaveChannel) → channels.Held w → row s at 0 26 ≡ wave_channel_bytes w → wave_channel_at s at ≡ w
  unfolding wave_channel_bytes ram_bytes
  wave_channel_back w k h =
      rw (
        first_of s at 25 _ h,
        nth 1 h,
        two_back s (at + 2) w.frequency (part s at 2 2 26 _ refl h) (omega (arith, k.frequency)),
        ram_back s (at + 4) w.buffer k.buffer (part s at 4 16 26 _ refl h),
        nth 20 h,
        nth 21 h,
        two_back s (at + 22) w.frequency_timer (part s at 22 2 26 _ refl h) (omega (arith, k.timer)),
        nth 24 h,
        nth 25 h,
        bit_back w.buffer_position_just_clocked,
        bit_back w.channel_enable,
        bit_back w.dac_enable,
      )

  pub wave_channel_same : Bytewise s → T (wave_channel_fits s at) → wave_channel_bytes (wave_channel_at s at) ≡ row s at 0 26
  unfolding wave_channel_bytes ram_bytes
  wave_channel_same b t =
      let h = passed (wave_channel_tests s at) t in
      glue (first_row s at)
      (ap (λ (r : List ℕ). get_or s (at + 1) 0 ∷ r)
      (glue (two_same s (at + 2) b ∙ row_shift s at 2 0 2)
      (glue (ram_same s (at + 4) ∙ row_shift s at 4 0 16)
      (ap (λ (r : List ℕ). get_or s (at + 20) 0 ∷ r)
      (glue (ap (λ (i : ℕ). i ∷ []) (bit_same (get_or s (at + 21) 0) (h 4)))
      (glue (two_same s (at + 22) b ∙ row_shift s at 22 0 2)
      (rw (bit_same (get_or s (at + 24) 0) (h 6), bit_same (get_or s (at + 25) 0) (h 7)))))))))

  pub wave_channel_held : T (wave_channel_fits s at) → channels.Held (wave_channel_at s at)
  wave_channel_held t =
      let h = passed (wave_channel_tests s at) t in
      record {
        volume = leb→le _ 3 (h 0);
        shift = shift_held (get_or s at 0) (get_or s (at + 1) 0) (leb→le _ 3 (h 0)) (h 1);
        frequency = leb→le _ 2047 (h 2);
        buffer = ram_held s (at + 4);
        position = leb→le _ 31 (h 3);
        timer = leb→le _ 2050 (h 5);
      }

  pub wave-channel-fits : (w : WaveChannel) → channels.Held w → row s at 0 26 ≡ wave_channel_bytes w → T (wave_channel_fits s at)
  unfolding wave_channel_bytes ram_bytes
  wave-channel-fits w k h =
      let own : T (shift_fits w.volume w.volume_shift) = shift_fits_lem w.volume w.volume_shift k.volume k.shift in
      let shift : T (shift_fits (get_or s at 0) (get_or s (at + 1) 0)) = rw (first_of s at 25 _ h, nth 1 h) own in
      let frequency = within (two_back s (at + 2) w.frequency (part s at 2 2 26 _ refl h) (omega (arith, k.frequency))) k.frequency in
      let just = flag_within w.buffer_position_just_clocked (nth 21 h) in
      let timer = within (two_back s (at + 22) w.frequency_timer (part s at 22 2 26 _ refl h) (omega (arith, k.timer))) k.timer in
      let on = flag_within w.channel_enable (nth 24 h) in
      let dac = flag_within w.dac_enable (nth 25 h) in
      every (wave_channel_tests s at)
      (within (first_of s at 25 _ h) k.volume, (shift, (frequency, (within (nth 20 h) k.position, (just, (timer, (on, (dac, tt))))))))

-- ---- and so is its group
pub wave_laws : ChannelLaws groups.kind wave_layout
wave_laws = record { back = wave_channel_back; same = wave_channel_same; held = wave_channel_held; fits = wave-channel-fits }

pub wave_group_long : (g : WaveGroup) → length (wave_group_bytes g) ≡ 37
unfolding group_bytes converter_bytes length_bytes wave_channel_bytes ram_bytes
wave_group_long g = refl
