-- The fields are stored one after the other, each where the last one ends. Assumes nothing.
use mathlib.Core.Path.{refl}
use Rattle.image_fields.proofs.Rows.{onward}
use Rattle.image_parts.specs.Parts.{length_bytes}
use Rattle.image_parts.proofs.length.put_length.Goals as goal

pub returns : goal.returns
unfolding length_bytes
returns c =
    let to-length = onward _ _ _ _ _ c.put_two.ensures c.put_two-2.ensures refl in
    let to-current-counter = onward _ _ _ _ _ to-length c.put_two-3.ensures refl in
    onward _ _ _ _ _ to-current-counter c.put_flag.ensures refl
