-- The fields are stored one after the other, each where the last one ends. Assumes nothing.
use mathlib.Core.Path.{refl}
use Rattle.image_fields.proofs.Rows.{onward}
use Rattle.image_parts.specs.Wave.{wave_channel_bytes, ram_bytes}
use Rattle.image_parts.proofs.wave.WaveChannelChannelBytes.put.Goals as goal

pub returns : goal.returns
unfolding wave_channel_bytes ram_bytes
returns c =
    let to-frequency = onward _ _ _ _ _ c.put_bytes.ensures c.put_two.ensures refl in
    let to-ram = onward _ _ _ _ _ to-frequency c.put_ram.ensures refl in
    let to-buffer-position = onward _ _ _ _ _ to-ram c.put_one.ensures refl in
    let to-buffer-position-just-clocked = onward _ _ _ _ _ to-buffer-position c.put_flag.ensures refl in
    let to-frequency-timer = onward _ _ _ _ _ to-buffer-position-just-clocked c.put_two-2.ensures refl in
    let to-channel-enable = onward _ _ _ _ _ to-frequency-timer c.put_flag-2.ensures refl in
    onward _ _ _ _ _ to-channel-enable c.put_flag-3.ensures refl
