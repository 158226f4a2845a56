-- The fields are stored one after the other, each where the last one ends. Assumes nothing.
use mathlib.Core.Path.{refl}
use Rattle.image_fields.proofs.Rows.{onward}
use Rattle.image_parts.specs.Pulse.{sweep_bytes}
use Rattle.image_parts.proofs.sweep.put_sweep.Goals as goal

pub returns : goal.returns
unfolding sweep_bytes
returns c =
    let to-current-time = onward _ _ _ _ _ c.put_one.ensures c.put_one-2.ensures refl in
    let to-internal-enable = onward _ _ _ _ _ to-current-time c.put_flag.ensures refl in
    let to-frequency-shadow = onward _ _ _ _ _ to-internal-enable c.put_two.ensures refl in
    let to-negate = onward _ _ _ _ _ to-frequency-shadow c.put_flag-2.ensures refl in
    let to-shift-n = onward _ _ _ _ _ to-negate c.put_one-3.ensures refl in
    onward _ _ _ _ _ to-shift-n c.put_flag-3.ensures refl
