-- Each way out is the case of `gained` that the test takes. Assumes nothing.
use borrow.Author.Rules.{rules}
use Rattle.clocks.proofs.sample_counter.half_clocks_of.Goals as goal

pub returns-else-double : goal.returns-else-double
returns-else-double c = record { value = rw c.if-double.false; upper_bound = search rules }
