-- The fields are stored one after the other, each where the last one ends. Assumes nothing.
use mathlib.Core.Path.{refl}
use Rattle.image_fields.proofs.Rows.{onward}
use Rattle.image_parts.specs.Groups.{group_bytes}
use Rattle.image_parts.specs.Parts.{converter_bytes, length_bytes}
use Rattle.image_parts.proofs.group.put_group.Goals as goal

pub returns : goal.returns
unfolding group_bytes converter_bytes length_bytes
returns g c =
    let to-length = onward _ _ _ _ _ c.put_converter.ensures c.put_length.ensures refl in
    onward _ _ _ _ _ to-length c.put.ensures refl
