-- Each way out is the nibble that the position picks. Assumes nothing.
use native.Mathlib.Omega.{arith}
use borrow.Author.Tests.{eq-eqb, ne_eqb}
use Rattle.ground.specs.Pick.{pick}
use Rattle.apu_run.specs.FrameSettings.{nibble_at}
use Rattle.apu_run.proofs.levels.nibble_at.Goals as goal

pub returns-then-position-eq0 : goal.returns-then-position-eq0
unfolding pick nibble_at
returns-then-position-eq0 c = record { value = rw (eq-eqb _ _ c.if-position-eq0.true); upper_bound = omega arith }

pub returns-else-position-eq0 : goal.returns-else-position-eq0
unfolding pick nibble_at
returns-else-position-eq0 c = record { value = rw (ne_eqb _ _ c.if-position-eq0.false); upper_bound = omega arith }
