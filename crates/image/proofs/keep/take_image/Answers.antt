-- The input's length and the tests decide, as in the definition. Assumes nothing.
use mathlib.Core.Path.{sym, ◌∙◌}
use Rattle.image.proofs.Answering.{taken_yes, taken_no_test, taken_no_length}
use Rattle.image.proofs.keep.take_image.Goals as goal

pub returns-then-unit_fits : goal.returns-then-unit_fits
returns-then-unit_fits c = taken_yes _ _ c.if-image-eq-IMAGE_BYTES.true (sym c.unit_fits.ensures ∙ c.if-unit_fits.true) c.read_unit.ensures

pub returns-then-image-eq-IMAGE_BYTES : goal.returns-then-image-eq-IMAGE_BYTES
returns-then-image-eq-IMAGE_BYTES c = taken_no_test _ _ c.wrong.ensures (sym c.unit_fits.ensures ∙ c.if-unit_fits.false)

pub returns : goal.returns
returns c = taken_no_length _ _ c.wrong-2.ensures c.if-image-eq-IMAGE_BYTES.false
