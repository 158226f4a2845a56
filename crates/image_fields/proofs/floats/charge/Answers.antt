-- No pattern up to that of 1.0 is a NaN's. Assumes nothing.
use borrow.Author.Tests.{lt-leb}
use mathlib.Core.Path.{sym}
use Rattle.image_fields.specs.Floats.{charge_of}
use Rattle.ground.specs.Pick.{pick}
use Rattle.image_fields.proofs.Patterns.{no_nan_bits, charge_read}
use Rattle.image_fields.proofs.floats.charge.Goals as goal

pub float_from_bits-result : goal.float_from_bits-result
float_from_bits-result c = no_nan_bits _ c.if-pattern-le1065353216.true

pub returns-then-pattern-le1065353216 : goal.returns-then-pattern-le1065353216
returns-then-pattern-le1065353216 c = sym (charge_read _ c.if-pattern-le1065353216.true)

pub returns : goal.returns
unfolding charge_of pick
returns c = rw (lt-leb _ _ c.if-pattern-le1065353216.false)
