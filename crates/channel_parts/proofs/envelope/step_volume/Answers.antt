-- Each way out is the case of `step_volume` that the tests pick. Assumes nothing.
use borrow.Author.Tests.{lt-ltb, le-ltb}
use Rattle.ground.specs.Pick.{pick}
use Rattle.channel_parts.specs.Envelope.{step_volume}
use Rattle.channel_parts.proofs.envelope.step_volume.Goals as goal

pub returns-then-volume-lt15 : goal.returns-then-volume-lt15
unfolding pick step_volume
returns-then-volume-lt15 c = rw (c.if-increase.true, lt-ltb _ _ c.if-volume-lt15.true)

pub returns-else-volume-lt15 : goal.returns-else-volume-lt15
unfolding pick step_volume
returns-else-volume-lt15 c = rw (c.if-increase.true, le-ltb _ _ c.if-volume-lt15.false)

pub returns-else-increase : goal.returns-else-increase
unfolding pick step_volume
returns-else-increase c = rw (c.if-increase.false, c.saturating_sub.ensures)
