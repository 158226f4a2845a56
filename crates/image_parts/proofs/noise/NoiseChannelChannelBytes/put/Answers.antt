-- The fields are stored one after the other, each where the last one ends. Assumes nothing.
use mathlib.Core.Path.{refl}
use Rattle.image_fields.proofs.Rows.{onward}
use Rattle.image_parts.specs.Noise.{noise_channel_bytes}
use Rattle.image_parts.specs.Parts.{envelope_bytes}
use Rattle.image_parts.proofs.noise.NoiseChannelChannelBytes.put.Goals as goal

pub returns : goal.returns
unfolding noise_channel_bytes envelope_bytes
returns c =
    let to-step-mode-7-bits = onward _ _ _ _ _ c.put_one.ensures c.put_flag.ensures refl in
    let to-divisor-code = onward _ _ _ _ _ to-step-mode-7-bits c.put_one-2.ensures refl in
    let to-frequency-timer = onward _ _ _ _ _ to-divisor-code c.put_two.ensures refl in
    let to-feedback-shift-register = onward _ _ _ _ _ to-frequency-timer c.put_two-2.ensures refl in
    let to-envelope = onward _ _ _ _ _ to-feedback-shift-register c.put_envelope.ensures refl in
    let to-channel-enabled = onward _ _ _ _ _ to-envelope c.put_flag-2.ensures refl in
    onward _ _ _ _ _ to-channel-enabled c.put_flag-3.ensures refl
