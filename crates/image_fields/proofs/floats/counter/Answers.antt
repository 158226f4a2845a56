-- No pattern that a sample counter may have is a NaN's. Assumes nothing.
use mathlib.Core.Path.{sym, subst, ◌∙◌}
use lib.Dec.{T}
use Rattle.image_fields.specs.Floats.{counter_of}
use Rattle.ground.specs.Pick.{pick}
use Rattle.image_fields.proofs.Patterns.{kept_no_nan_bits, counter_read}
use Rattle.image_fields.proofs.floats.counter.Goals as goal

pub float_from_bits-result : goal.float_from_bits-result
float_from_bits-result c = kept_no_nan_bits _ _ c.args.pattern (subst T (sym (sym c.kept.ensures ∙ c.if-kept.true)) tt)

pub returns-then-kept : goal.returns-then-kept
returns-then-kept c = sym (counter_read _ _ c.args.pattern (subst T (sym (sym c.kept.ensures ∙ c.if-kept.true)) tt))

pub returns : goal.returns
unfolding counter_of pick
returns c = rw (sym c.kept.ensures ∙ c.if-kept.false)
