-- The fields are stored one after the other, each where the last one ends. Assumes nothing.
use mathlib.Core.Path.{refl}
use Rattle.image_fields.proofs.Rows.{onward}
use Rattle.image.proofs.unit.put_head.Goals as goal

pub returns : goal.returns
returns c = onward _ _ _ _ _ c.put_one.ensures c.put_two.ensures refl
