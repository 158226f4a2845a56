-- A sweep, a pulse channel, and it with its converter and its length record, as bytes: by place as the parts, each part by its own laws. Assumes nothing.
use Prim.Native.Nat.{ℕ, ◌+◌}
use mathlib.Core.Path.{◌≡◌, refl, ◌∙◌, ap}
use mathlib.Core.List.{List, ◌∷◌}
use native.Mathlib.Nat.{add-zero}
use native.Mathlib.Omega.{arith}
use lib.ListN.{length, get_or}
use lib.Dec.{T, leb→le}
use Rattle.channel_pulse.specs.Sweep as sweeps
use Rattle.channel_pulse.specs.declared.sweep.Sweep.{Sweep}
use Rattle.channel_pulse.specs.Pulse as channels
use Rattle.channel_pulse.specs.declared.pulse_channel.PulseChannel.{PulseChannel}
use Rattle.channel_groups.specs.PulseGroups as groups
use Rattle.channel_groups.specs.PulseGroups.{PulseGroup}
use Rattle.image_fields.specs.Bytes.{row}
use Rattle.image_parts.specs.Parts.{converter_bytes, length_bytes, envelope_bytes}
use Rattle.image_parts.specs.Pulse.{sweep_bytes, sweep_at, sweep_tests, sweep_fits}
use Rattle.image_parts.specs.Pulse.{pulse_channel_bytes, pulse_channel_at, pulse_channel_tests, pulse_channel_fits}
use Rattle.image_parts.specs.Pulse.{pulse_layout, pulse_group_bytes}
use Rattle.image_parts.specs.Groups.{group_bytes}
use Rattle.image_laws.specs.Images.{Bytewise}
use Rattle.image_laws.proofs.Numbers.{bit_back, bit_same, passed, every, row_shift, first_of, nth, part, glue, two_back, eight_back}
use Rattle.image_laws.proofs.Numbers.{two_high, two_low, two_same, eight_same}
use Rattle.image_laws.proofs.Parts.{within, flag_within}
use Rattle.image_laws.proofs.Groups.{ChannelLaws}
use Rattle.image_laws.proofs.Parts.{envelope_back, envelope_same, envelope_held, envelope-fits}

-- ---- a sweep
module _ (s : List ℕ) (at : ℕ) where
  pub sweep_back : (w : Sweep) → sweeps.Held w → row s at 0 8 ≡ sweep_bytes w → sweep_at s at ≡ w
  unfolding sweep_bytes
  sweep_back w k h =
      rw (
        first_of s at 7 _ h,
        nth 1 h,
        nth 2 h,
        two_back s (at + 3) w.frequency_shadow (part s at 3 2 8 _ refl h) (omega (arith, k.shadow)),
        nth 5 h,
        nth 6 h,
        nth 7 h,
        bit_back w.internal_enable,
        bit_back w.negate,
        bit_back w.calculation_happened,
      )

  pub sweep_same : Bytewise s → T (sweep_fits s at) → sweep_bytes (sweep_at s at) ≡ row s at 0 8
  unfolding sweep_bytes
  sweep_same b t =
      let h = passed (sweep_tests s at) t in
      rw (
        add-zero at,
        bit_same (get_or s (at + 2) 0) (h 2),
        two_high s (at + 3) b,
        two_low s at 3 b,
        bit_same (get_or s (at + 5) 0) (h 4),
        bit_same (get_or s (at + 7) 0) (h 6),
      )

  pub sweep_held : T (sweep_fits s at) → sweeps.Held (sweep_at s at)
  sweep_held t =
      let h = passed (sweep_tests s at) t in
      record {
        period = leb→le _ 7 (h 0);
        time = leb→le _ 8 (h 1);
        shadow = leb→le _ 2047 (h 3);
        shift = leb→le _ 7 (h 5);
      }

  pub sweep-fits : (w : Sweep) → sweeps.Held w → row s at 0 8 ≡ sweep_bytes w → T (sweep_fits s at)
  unfolding sweep_bytes
  sweep-fits w k h =
      let enable = flag_within w.internal_enable (nth 2 h) in
      let shadow = within (two_back s (at + 3) w.frequency_shadow (part s at 3 2 8 _ refl h) (omega (arith, k.shadow))) k.shadow in
      let negate = flag_within w.negate (nth 5 h) in
      let happened = flag_within w.calculation_happened (nth 7 h) in
      every (sweep_tests s at) (
        within (first_of s at 7 _ h) k.period,
        (within (nth 1 h) k.time, (enable, (shadow, (negate, (within (nth 6 h) k.shift, (happened, tt)))))),
      )

-- ---- a pulse channel
module _ (s : List ℕ) (at : ℕ) where
  pub pulse_channel_back : (p : PulseChannel) → channels.Held p → row s at 0 30 ≡ pulse_channel_bytes p → pulse_channel_at s at ≡ p
  unfolding pulse_channel_bytes sweep_bytes envelope_bytes
  pulse_channel_back p k h =
      rw (
        sweep_back s at p.sweep k.sweep (ap (λ (r : List ℕ). row r 0 0 8) h),
        eight_back s (at + 8) p.sequencer_position (part s at 8 8 30 _ refl h) (omega (arith, k.position)),
        nth 16 h,
        envelope_back s (at + 17) p.envelope (part s at 17 6 30 _ refl h),
        two_back s (at + 23) p.frequency (part s at 23 2 30 _ refl h) (omega (arith, k.frequency)),
        two_back s (at + 25) p.frequency_timer (part s at 25 2 30 _ refl h) (omega (arith, k.timer)),
        nth 27 h,
        nth 28 h,
        nth 29 h,
        bit_back p.channel_enabled,
        bit_back p.first_trigger,
        bit_back p.dac_enable,
      )

  pub pulse_channel_same : Bytewise s → T (pulse_channel_fits s at) → pulse_channel_bytes (pulse_channel_at s at) ≡ row s at 0 30
  unfolding pulse_channel_bytes sweep_bytes envelope_bytes
  pulse_channel_same b t =
      let h = passed (pulse_channel_tests s at) t in
      glue (sweep_same s at b (h 0))
      (glue (eight_same s (at + 8) b ∙ row_shift s at 8 0 8)
      (ap (λ (r : List ℕ). get_or s (at + 16) 0 ∷ r)
      (glue (envelope_same s (at + 17) (h 3) ∙ row_shift s at 17 0 6)
      (glue (two_same s (at + 23) b ∙ row_shift s at 23 0 2)
      (glue (two_same s (at + 25) b ∙ row_shift s at 25 0 2)
      (rw (
        bit_same (get_or s (at + 27) 0) (h 6),
        bit_same (get_or s (at + 28) 0) (h 7),
        bit_same (get_or s (at + 29) 0) (h 8),
      )))))))

  pub pulse_channel_held : T (pulse_channel_fits s at) → channels.Held (pulse_channel_at s at)
  pulse_channel_held t =
      let h = passed (pulse_channel_tests s at) t in
      record {
        sweep = sweep_held s at (h 0);
        position = leb→le _ 7 (h 1);
        duty = leb→le _ 3 (h 2);
        envelope = envelope_held s (at + 17) (h 3);
        frequency = leb→le _ 2047 (h 4);
        timer = leb→le _ 2047 (h 5);
      }

  pub pulse-channel-fits : (p : PulseChannel) → channels.Held p → row s at 0 30 ≡ pulse_channel_bytes p → T (pulse_channel_fits s at)
  unfolding pulse_channel_bytes sweep_bytes envelope_bytes
  pulse-channel-fits p k h =
      let sweep = sweep-fits s at p.sweep k.sweep (ap (λ (r : List ℕ). row r 0 0 8) h) in
      let position = within (eight_back s (at + 8) p.sequencer_position (part s at 8 8 30 _ refl h) (omega (arith, k.position))) k.position in
      let envelope = envelope-fits s (at + 17) p.envelope k.envelope (part s at 17 6 30 _ refl h) in
      let frequency = within (two_back s (at + 23) p.frequency (part s at 23 2 30 _ refl h) (omega (arith, k.frequency))) k.frequency in
      let timer = within (two_back s (at + 25) p.frequency_timer (part s at 25 2 30 _ refl h) (omega (arith, k.timer))) k.timer in
      let on = flag_within p.channel_enabled (nth 27 h) in
      let first = flag_within p.first_trigger (nth 28 h) in
      let dac = flag_within p.dac_enable (nth 29 h) in
      every (pulse_channel_tests s at)
      (sweep, (position, (within (nth 16 h) k.duty, (envelope, (frequency, (timer, (on, (first, (dac, tt)))))))))

-- ---- and so is its group
pub pulse_laws : ChannelLaws groups.kind pulse_layout
pulse_laws = record { back = pulse_channel_back; same = pulse_channel_same; held = pulse_channel_held; fits = pulse-channel-fits }

pub pulse_group_long : (g : PulseGroup) → length (pulse_group_bytes g) ≡ 41
unfolding group_bytes converter_bytes length_bytes pulse_channel_bytes sweep_bytes envelope_bytes
pulse_group_long g = refl
