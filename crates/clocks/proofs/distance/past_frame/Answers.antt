-- Up to 24 clocks of 2 ^ 48 units stay under 2 ^ 64, and with those that make the frame the units are no fewer than K. Assumes nothing.
use native.Mathlib.Omega.{arith}
use Rattle.clocks.proofs.Distances.{away_most, enough}
use Rattle.clocks.proofs.distance.past_frame.Goals as goal

pub overflow_mul-result : goal.overflow_mul-result
overflow_mul-result c = omega (arith, away_most c.args.units c.requires.units_bound)

pub overflow_add-result : goal.overflow_add-result
overflow_add-result c = omega (arith, away_most c.args.units c.requires.units_bound)

pub overflow_sub-result : goal.overflow_sub-result
overflow_sub-result c = omega (arith, enough c.args.units c.requires.units_bound)
