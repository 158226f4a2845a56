-- The version says which of the two it is. Assumes nothing.
use native.Mathlib.Omega.{arith}
use borrow.Author.Tests.{eq-eqb, ne_eqb}
use Rattle.ground.specs.Pick.{pick}
use Rattle.log_records.specs.Judge.{clock_length}
use Rattle.log_records.proofs.judge.clock_length.Goals as goal

pub returns-then-version-eq1 : goal.returns-then-version-eq1
unfolding pick clock_length
returns-then-version-eq1 c = record { value = rw (eq-eqb _ _ c.if-version-eq1.true); lower_bound = (omega arith, omega arith) }

pub returns-else-version-eq1 : goal.returns-else-version-eq1
unfolding pick clock_length
returns-else-version-eq1 c = record { value = rw (ne_eqb _ _ c.if-version-eq1.false); lower_bound = (omega arith, omega arith) }
