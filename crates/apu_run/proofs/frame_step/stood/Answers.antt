-- Each way out is the case that the test picks. Assumes nothing.
use Rattle.ground.specs.Pick.{pick}
use Rattle.apu_run.proofs.frame_step.stood.Goals as goal

pub returns-then-muted : goal.returns-then-muted
unfolding pick
returns-then-muted c = rw c.if-muted.true

pub returns-else-muted : goal.returns-else-muted
unfolding pick
returns-else-muted c = rw c.if-muted.false
