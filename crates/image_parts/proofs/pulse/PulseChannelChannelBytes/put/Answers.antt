-- The fields are stored one after the other, each where the last one ends. Assumes nothing.
use mathlib.Core.Path.{refl}
use Rattle.image_fields.proofs.Rows.{onward}
use Rattle.image_parts.specs.Pulse.{pulse_channel_bytes, sweep_bytes}
use Rattle.image_parts.specs.Parts.{envelope_bytes}
use Rattle.image_parts.proofs.pulse.PulseChannelChannelBytes.put.Goals as goal

pub returns : goal.returns
unfolding pulse_channel_bytes sweep_bytes envelope_bytes
returns c =
    let to-sequencer-position = onward _ _ _ _ _ c.put_sweep.ensures c.put_eight.ensures refl in
    let to-duty = onward _ _ _ _ _ to-sequencer-position c.put_one.ensures refl in
    let to-envelope = onward _ _ _ _ _ to-duty c.put_envelope.ensures refl in
    let to-frequency = onward _ _ _ _ _ to-envelope c.put_two.ensures refl in
    let to-frequency-timer = onward _ _ _ _ _ to-frequency c.put_two-2.ensures refl in
    onward _ _ _ _ _ to-frequency-timer c.put_flags.ensures refl
