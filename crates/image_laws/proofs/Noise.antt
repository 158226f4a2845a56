-- The noise channel, and it with its converter and its length record, as bytes: by place as the parts, each part by its own laws. Assumes nothing.
use Prim.Native.Nat.{ℕ, ◌+◌}
use mathlib.Core.Path.{◌≡◌, refl, ◌∙◌, ap}
use mathlib.Core.List.{List, [], ◌∷◌}
use native.Mathlib.Omega.{arith}
use lib.ListN.{length, get_or}
use lib.Dec.{T, leb→le}
use Rattle.channel_noise.specs.Noise as channels
use Rattle.channel_noise.specs.declared.noise_channel.NoiseChannel.{NoiseChannel}
use Rattle.channel_groups.specs.NoiseGroups as groups
use Rattle.channel_groups.specs.NoiseGroups.{NoiseGroup}
use Rattle.image_fields.specs.Bytes.{row}
use Rattle.image_parts.specs.Parts.{converter_bytes, length_bytes, envelope_bytes}
use Rattle.image_parts.specs.Noise.{noise_channel_bytes, noise_channel_at, noise_channel_tests, noise_channel_fits}
use Rattle.image_parts.specs.Noise.{noise_layout, noise_group_bytes}
use Rattle.image_parts.specs.Groups.{group_bytes}
use Rattle.image_laws.specs.Images.{Bytewise}
use Rattle.image_laws.proofs.Numbers.{bit_back, bit_same, passed, every, row_shift, first_of, first_row, nth, part, glue, two_back, two_same}
use Rattle.image_laws.proofs.Parts.{within, flag_within}
use Rattle.image_laws.proofs.Groups.{ChannelLaws}
use Rattle.image_laws.proofs.Parts.{envelope_back, envelope_same, envelope_held, envelope-fits}

-- ---- the noise channel
module _ (s : List ℕ) (at : ℕ) where
  pub noise_channel_back : (n : NoiseChannel) → channels.Held n → row s at 0 15 ≡ noise_channel_bytes n → noise_channel_at s at ≡ n
  unfolding noise_channel_bytes envelope_bytes
  noise_channel_back n k h =
      rw (
        first_of s at 14 _ h,
        nth 1 h,
        nth 2 h,
        two_back s (at + 3) n.frequency_timer (part s at 3 2 15 _ refl h) (omega (arith, k.timer)),
        two_back s (at + 5) n.feedback_shift_register (part s at 5 2 15 _ refl h) (omega (arith, k.register)),
        envelope_back s (at + 7) n.envelope (part s at 7 6 15 _ refl h),
        nth 13 h,
        nth 14 h,
        bit_back n.step_mode_7_bits,
        bit_back n.channel_enabled,
        bit_back n.dac_enable,
      )

  pub noise_channel_same : Bytewise s → T (noise_channel_fits s at) → noise_channel_bytes (noise_channel_at s at) ≡ row s at 0 15
  unfolding noise_channel_bytes envelope_bytes
  noise_channel_same b t =
      let h = passed (noise_channel_tests s at) t in
      glue (first_row s at)
      (glue (ap (λ (i : ℕ). i ∷ []) (bit_same (get_or s (at + 1) 0) (h 1)))
      (ap (λ (r : List ℕ). get_or s (at + 2) 0 ∷ r)
      (glue (two_same s (at + 3) b ∙ row_shift s at 3 0 2)
      (glue (two_same s (at + 5) b ∙ row_shift s at 5 0 2)
      (glue (envelope_same s (at + 7) (h 5) ∙ row_shift s at 7 0 6)
      (rw (bit_same (get_or s (at + 13) 0) (h 6), bit_same (get_or s (at + 14) 0) (h 7))))))))

  pub noise_channel_held : T (noise_channel_fits s at) → channels.Held (noise_channel_at s at)
  noise_channel_held t =
      let h = passed (noise_channel_tests s at) t in
      record {
        shift = leb→le _ 15 (h 0);
        code = leb→le _ 7 (h 2);
        timer = leb→le _ 16383 (h 3);
        register = leb→le _ 0x7FFF (h 4);
        envelope = envelope_held s (at + 7) (h 5);
      }

  pub noise-channel-fits : (n : NoiseChannel) → channels.Held n → row s at 0 15 ≡ noise_channel_bytes n → T (noise_channel_fits s at)
  unfolding noise_channel_bytes envelope_bytes
  noise-channel-fits n k h =
      let narrow = flag_within n.step_mode_7_bits (nth 1 h) in
      let timer = within (two_back s (at + 3) n.frequency_timer (part s at 3 2 15 _ refl h) (omega (arith, k.timer))) k.timer in
      let register = within (two_back s (at + 5) n.feedback_shift_register (part s at 5 2 15 _ refl h) (omega (arith, k.register))) k.register in
      let envelope = envelope-fits s (at + 7) n.envelope k.envelope (part s at 7 6 15 _ refl h) in
      let on = flag_within n.channel_enabled (nth 13 h) in
      let dac = flag_within n.dac_enable (nth 14 h) in
      every (noise_channel_tests s at)
      (within (first_of s at 14 _ h) k.shift, (narrow, (within (nth 2 h) k.code, (timer, (register, (envelope, (on, (dac, tt))))))))

-- ---- and so is its group
pub noise_laws : ChannelLaws groups.kind noise_layout
noise_laws = record { back = noise_channel_back; same = noise_channel_same; held = noise_channel_held; fits = noise-channel-fits }

pub noise_group_long : (g : NoiseGroup) → length (noise_group_bytes g) ≡ 26
unfolding group_bytes converter_bytes length_bytes noise_channel_bytes envelope_bytes
noise_group_long g = refl
