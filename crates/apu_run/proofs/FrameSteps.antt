-- A frame by what its run's settings give is the frame: a muted channel and a side that is not selected give 0, and the arm that is not chosen
-- changes nothing. With all four muted it is silence. Assumes nothing.
use mathlib.Core.Path.{◌≡◌, refl, sym, ap, ap₂, ◌∙◌}
use mathlib.Core.Bool.{Bool, true, false, not, ◌&&◌, ◌||◌}
use Prim.Native.Nat.{ℕ, zero, suc, ◌+◌, ◌-◌, ◌*◌, ◌/◌, ◌%◌, ◌≤◌}
use native.Mathlib.Omega.{arith}
use lib.Dec.{eqb}
use lib.Ieee.{Float, binary32, of_bits, of_int, add, mul, div}
use Rattle.ground.specs.Pick.{pick}
use Rattle.ground.proofs.Cases.{pick_true, and_left, and_right}
use Rattle.frame.specs.Converter.{f0, in_of, stepped}
use Rattle.frame.specs.Mixing.{f5, f8, side_of, sides_of, selected_of, voiced, sum4, mixed}
use Rattle.frame.specs.declared.converter.Converter.{Converter}
use Rattle.frame.specs.declared.mixing.Voiced.{Voiced}
use Rattle.channel_pulse.specs.Pulse as pulse
use Rattle.channel_pulse.specs.Phase.{with_pulse_phase}
use Rattle.channel_pulse.specs.declared.pulse_channel.PulseChannel.{PulseChannel}
use Rattle.channel_pulse.specs.declared.phase.PulsePhase.{PulsePhase}
use Rattle.channel_wave.specs.Wave as wave
use Rattle.channel_wave.specs.Phase.{with_wave_phase}
use Rattle.channel_wave.specs.declared.wave_channel.WaveChannel.{WaveChannel}
use Rattle.channel_wave.specs.declared.phase.WavePhase.{WavePhase}
use Rattle.channel_noise.specs.Noise as noise
use Rattle.channel_noise.specs.Phase.{with_noise_phase}
use Rattle.channel_noise.specs.declared.noise_channel.NoiseChannel.{NoiseChannel}
use Rattle.channel_noise.specs.declared.phase.NoisePhase.{NoisePhase}
use Rattle.apu_run.specs.FrameStep.{frame_step_of}
use Rattle.log_items.specs.Items as silent
use Rattle.apu.specs.declared.Apu.{Apu}
use Rattle.apu_run.specs.Phases.{settings_of}
use Rattle.apu_run.specs.FrameSettings.{loud_of, route_of, frame_settings_of, pulse_output, nibble_at, wave_output, noise_output, levels_of, sound_of}
use Rattle.apu_run.specs.FrameSettings.{frame_step_by, stood_of, stood_still}
use Rattle.apu_run.specs.Parts.{silent_of}
use Rattle.apu_run.specs.declared.phases.Phases.{Phases}
use Rattle.apu_run.specs.declared.phases.Settings.{Settings}
use Rattle.apu_run.specs.declared.phases.Converters.{Converters}
use Rattle.apu_run.specs.declared.frame_step.FrameStep.{FrameStep}

-- ---- zeros, computed: 0/8 × (volume+1) / 5 is 0 at every volume, and so is a side that is not selected
unselected : (sample : Float) (volume : ℕ) → side_of sample volume false ≡ f0
unfolding side_of of_bits div
unselected sample volume = refl

silence : (volume : ℕ) → volume ≤ 7 → side_of f0 volume true ≡ f0
unfolding side_of of_bits of_int add mul div
silence zero h = refl
silence (suc zero) h = refl
silence (suc (suc zero)) h = refl
silence (suc (suc (suc zero))) h = refl
silence (suc (suc (suc (suc zero)))) h = refl
silence (suc (suc (suc (suc (suc zero))))) h = refl
silence (suc (suc (suc (suc (suc (suc zero)))))) h = refl
silence (suc (suc (suc (suc (suc (suc (suc zero))))))) h = refl
silence (suc (suc (suc (suc (suc (suc (suc (suc n)))))))) h = absurd (omega arith)

silent_side : (b : Bool) (volume : ℕ) → volume ≤ 7 → side_of f0 volume b ≡ f0
silent_side true volume h = silence volume h
silent_side false volume h = unselected f0 volume

-- ---- a side, by whether FF25 selects the channel there: of one that sounds, and of a muted one
side_open : (b : Bool) (x : Float) (volume : ℕ)
    → pick (b && not false) (div binary32 (mul binary32 (div binary32 x f8) (loud_of volume)) f5) f0 ≡ side_of x volume b
unfolding pick side_of
side_open true x volume = refl
side_open false x volume = sym (unselected x volume)

side_muted : (b : Bool) (x : Float) (volume : ℕ) → volume ≤ 7 → pick (b && not true) x f0 ≡ side_of f0 volume b
unfolding pick
side_muted true x volume h = sym (silence volume h)
side_muted false x volume h = sym (unselected f0 volume)

-- ---- a channel: working out both arms changes nothing, and what would go in matters only where it is not muted
module _ (d : Converter) (control selection channel : ℕ) where
  abbrev right_volume : ℕ
  right_volume = control % 8

  abbrev left_volume : ℕ
  left_volume = control / 16 % 8

  abbrev sounded : ℕ → Bool → Voiced
  sounded output muted = sound_of d (in_of output) (route_of muted selection channel) (record { right = loud_of right_volume; left = loud_of left_volume })

  -- two channels whose converters are alike, by their sides
  same_sides : (k : Converter) (a b x y : Float) → a ≡ x → b ≡ y
      → ◌≡◌ {A = Voiced}
      (record { converter = k; sides = record { right = a; left = b } })
      (record { converter = k; sides = record { right = x; left = y } })
  same_sides k a b x y e f = ap₂ (λ (r l : Float). record { converter = k; sides = record { right = r; left = l } }) e f

  -- and made good, where it is muted, by what its converter was before
  by_route : (before : Converter) (x output : ℕ) (muted : Bool) → (muted ≡ false → x ≡ output)
      → ◌≡◌ {A = Voiced}
      (record { converter = stood_of muted before (sounded x muted).converter; sides = (sounded x muted).sides })
      (voiced (stood_of muted before d) output muted control selection channel)
  unfolding sound_of route_of voiced stepped sides_of
  by_route before x output true e =
      unfold pick in
      same_sides before _ _ _ _
      (side_muted (selected_of selection channel) _ right_volume (omega arith))
      (side_muted (selected_of selection (channel + 4)) _ left_volume (omega arith))
  by_route before x output false e =
      ap (λ (n : ℕ). record { converter = stood_of false before (sounded n false).converter; sides = (sounded n false).sides }) (e refl)
      ∙ unfold pick in
      same_sides _ _ _ _ _ (side_open (selected_of selection channel) _ right_volume) (side_open (selected_of selection (channel + 4)) _ left_volume)

  -- a muted one gives 0 on both sides, and its converter stays
  voiced_muted : (output : ℕ) (muted : Bool) → muted ≡ true
      → voiced d output muted control selection channel ≡ record { converter = d; sides = record { right = f0; left = f0 } }
  unfolding voiced stepped sides_of
  voiced_muted output muted e =
      rw e
      (same_sides d _ _ _ _
      (silent_side (selected_of selection channel) right_volume (omega arith))
      (silent_side (selected_of selection (channel + 4)) left_volume (omega arith)))

-- ---- the output of a channel that is not muted
on_of : (on quiet : Bool) → (not on || quiet) ≡ false → on ≡ true
on_of true quiet e = refl
on_of false quiet e = sym e

on_is : (on : Bool) → not on ≡ false → on ≡ true
on_is true e = refl
on_is false e = sym e

-- a bit times a volume is a choice
bit_times : (b volume : ℕ) → b ≤ 1 → b * volume ≡ pick (eqb b 1) volume 0
unfolding pick
bit_times zero volume h = omega arith
bit_times (suc zero) volume h = omega arith
bit_times (suc (suc b)) volume h = absurd (omega arith)

other_times : (b volume : ℕ) → b ≤ 1 → (1 - b) * volume ≡ pick (eqb b 0) volume 0
unfolding pick
other_times zero volume h = omega arith
other_times (suc zero) volume h = omega arith
other_times (suc (suc b)) volume h = absurd (omega arith)

-- and no more than the volume
pub bit_most : (b volume : ℕ) → b ≤ 1 → volume ≤ 15 → b * volume ≤ 15
bit_most zero volume h l = omega arith
bit_most (suc zero) volume h l = omega arith
bit_most (suc (suc b)) volume h l = absurd (omega arith)

on_pick : (on bit : Bool) (volume : ℕ) → on ≡ true → pick bit volume 0 ≡ pick (on && bit) volume 0
on_pick on bit volume e = ap (λ (b : Bool). pick (b && bit) volume 0) (sym e)

pulse_in : (p : PulseChannel) (t : PulsePhase) → pulse.muted_of p ≡ false
    → pulse_output (pulse.duty_row p.duty) p.envelope.current_volume t.sequencer_position ≡ pulse.output_of (with_pulse_phase p t)
unfolding pulse_output pulse.output_of
pulse_in p t e = bit_times _ p.envelope.current_volume (omega arith) ∙ on_pick p.channel_enabled _ _ (on_of p.channel_enabled _ e)

wave_in : (w : WaveChannel) (t : WavePhase) → wave.muted_of w ≡ false
    → wave_output w.volume_shift t.buffer_position w.buffer ≡ wave.output_of (with_wave_phase w t)
unfolding wave.output_of wave.nibble_of nibble_at
wave_in w t e = sym (pick_true w.channel_enable _ 0 (on_is w.channel_enable e))

noise_in : (n : NoiseChannel) (t : NoisePhase) → noise.muted_of n ≡ false
    → noise_output n.envelope.current_volume t.feedback_shift_register ≡ noise.output_of (with_noise_phase n t)
unfolding noise.output_of
noise_in n t e = other_times _ n.envelope.current_volume (omega arith) ∙ on_pick n.channel_enabled _ _ (on_of n.channel_enabled _ e)

-- ---- the frame
pub by_frame_settings : (s : Settings) (m : Phases) (before k : Converters)
    → let t = frame_settings_of s in
    let f = frame_step_by t (levels_of t m s.wave.buffer) k in
    ◌≡◌ {A = FrameStep} (record { converters = stood_still t before f.converters; mix = f.mix }) (frame_step_of s m (stood_still t before k))
unfolding frame_step_by frame_settings_of levels_of frame_step_of route_of
by_frame_settings s m before k =
    let control : ℕ = s.channels_control in
    let selection : ℕ = s.channels_selection in
    rw (
      ← by_route k.pulse1 control selection 0 before.pulse1 _ _ _ (pulse_in s.pulse1 m.pulse1),
      ← by_route k.pulse2 control selection 1 before.pulse2 _ _ _ (pulse_in s.pulse2 m.pulse2),
      ← by_route k.wave control selection 2 before.wave _ _ _ (wave_in s.wave m.wave),
      ← by_route k.noise control selection 3 before.noise _ _ _ (noise_in s.noise m.noise),
    )

-- ---- a frame while all four are muted: ten times 0, and nothing moves
silent_sum : sum4 f0 f0 f0 f0 ≡ f0
unfolding of_bits add
silent_sum = refl

pub frame_step_silent : (a : Apu) (m : Phases) (k : Converters) → silent_of a ≡ true
    → frame_step_of (settings_of a) m k ≡ record { converters = k; mix = silent.silence }
unfolding frame_step_of mixed
frame_step_silent a m k e =
    let control : ℕ = a.channels_control in
    let selection : ℕ = a.channels_selection in
    let first = and_left (pulse.muted_of a.pulse1.channel) _ e in
    let others = and_right (pulse.muted_of a.pulse1.channel) _ e in
    let second = and_left (pulse.muted_of a.pulse2.channel) _ others in
    let last = and_right (pulse.muted_of a.pulse2.channel) _ others in
    rw (
      voiced_muted k.pulse1 control selection 0 _ _ first,
      voiced_muted k.pulse2 control selection 1 _ _ second,
      voiced_muted k.wave control selection 2 _ _ (and_left (wave.muted_of a.wave.channel) _ last),
      voiced_muted k.noise control selection 3 _ _ (and_right (wave.muted_of a.wave.channel) _ last),
      silent_sum,
    )
