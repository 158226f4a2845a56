-- Each of the nine positions, by its value. Assumes nothing.
use mathlib.Core.Path.{◌≡◌, refl, ◌∙◌}
use mir.Syntax.{w8}
use mir.Val.{of_z, to_z}
use lib.IntN.{ℤ}
use Rattle.clocks.specs.Position.{PositionHeld}
use Rattle.clocks.proofs.Positions.{nine}
use Rattle.image_fields.specs.Codes.{position_byte}
use Rattle.image_fields.proofs.codes.position_byte.Goals as goal

again : (z : ℤ) → PositionHeld z → of_z w8 (to_z w8 (of_z w8 z)) ≡ position_byte z
again = nine (λ (z : ℤ). of_z w8 (to_z w8 (of_z w8 z)) ≡ position_byte z) refl refl refl refl refl refl refl refl refl

pub returns : goal.returns
returns c = c.cast_unsigned.ensures ∙ again c.args.position c.requires
