-- The fields are stored one after the other, each where the last one ends. Assumes nothing.
use mathlib.Core.Path.{refl}
use Rattle.image_fields.proofs.Rows.{onward}
use Rattle.image_parts.specs.Parts.{converter_bytes, length_bytes, envelope_bytes}
use Rattle.image_parts.specs.Groups.{group_bytes}
use Rattle.image_parts.specs.Pulse.{sweep_bytes, pulse_channel_bytes}
use Rattle.image_parts.specs.Wave.{ram_bytes, wave_channel_bytes}
use Rattle.image_parts.specs.Noise.{noise_channel_bytes}
use Rattle.image.specs.Image.{unit_bytes}
use Rattle.image.proofs.unit.put_unit.Goals as goal

pub returns : goal.returns
unfolding unit_bytes converter_bytes length_bytes envelope_bytes sweep_bytes pulse_channel_bytes ram_bytes wave_channel_bytes
    noise_channel_bytes group_bytes
returns c =
    let to_pulse1 = onward _ _ _ _ _ c.put_head.ensures c.put_group.ensures refl in
    let to_pulse2 = onward _ _ _ _ _ to_pulse1 c.put_group-2.ensures refl in
    let to_wave = onward _ _ _ _ _ to_pulse2 c.put_group-3.ensures refl in
    let to-model = onward _ _ _ _ _ to_wave c.put_flag.ensures refl in
    let to_noise = onward _ _ _ _ _ to-model c.put_group-4.ensures refl in
    onward _ _ _ _ _ to_noise c.put_tail.ensures refl
