-- An f64 holds each number below K, and its quotient by 2 ^ 48 unrounded. Assumes nothing.
use mathlib.Core.Path.{ap, ◌∙◌}
use lib.IntN.{pos}
use lib.Ieee.{binary64, of_int, div}
use Rattle.clocks.proofs.Distances.{K-held, scale_is, scaled_down}
use Rattle.clocks.proofs.distance.counter_of.Goals as goal

pub int_to_float-result : goal.int_to_float-result
int_to_float-result c = K-held c.args.units c.requires

pub returns : goal.returns
returns c =
    let units = c.args.units in
    ap (div binary64 (of_int binary64 (pos units))) scale_is ∙ scaled_down units c.requires
