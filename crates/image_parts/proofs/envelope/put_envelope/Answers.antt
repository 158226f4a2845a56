-- The fields are stored one after the other, each where the last one ends. Assumes nothing.
use mathlib.Core.Path.{refl}
use Rattle.image_fields.proofs.Rows.{onward}
use Rattle.image_parts.specs.Parts.{envelope_bytes}
use Rattle.image_parts.proofs.envelope.put_envelope.Goals as goal

pub returns : goal.returns
unfolding envelope_bytes
returns c =
    let to-current-volume = onward _ _ _ _ _ c.put_one.ensures c.put_one-2.ensures refl in
    let to-sweep-increase = onward _ _ _ _ _ to-current-volume c.put_flag.ensures refl in
    let to-period = onward _ _ _ _ _ to-sweep-increase c.put_one-3.ensures refl in
    let to-envelope-can-run = onward _ _ _ _ _ to-period c.put_flag-2.ensures refl in
    onward _ _ _ _ _ to-envelope-can-run c.put_one-4.ensures refl
