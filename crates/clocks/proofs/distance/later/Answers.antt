-- Short of the next frame the units stay below K, so that nothing overflows. Assumes nothing.
use borrow.Author.Rules.{rules}
use native.Mathlib.Omega.{arith}
use Rattle.clocks.proofs.Distances.{short-of}
use Rattle.clocks.proofs.distance.later.Goals as goal

pub overflow_mul-result : goal.overflow_mul-result
overflow_mul-result c = omega (arith, short-of c.args.units c.args.clocks c.requires.units_bound c.requires.clocks_bound)

pub overflow_add-result : goal.overflow_add-result
overflow_add-result c = omega (arith, short-of c.args.units c.args.clocks c.requires.units_bound c.requires.clocks_bound)

pub returns : goal.returns
returns c = record { value = search rules; upper_bound = short-of c.args.units c.args.clocks c.requires.units_bound c.requires.clocks_bound }
