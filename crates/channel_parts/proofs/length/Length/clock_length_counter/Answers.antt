-- Each way out is the case of `clocked` that the enable bit picks. Assumes nothing.
use Rattle.ground.specs.Pick.{pick}
use Rattle.channel_parts.specs.Length.{clocked}
use Rattle.channel_parts.proofs.length.Length.clock_length_counter.Goals as goal

pub returns-then-self : goal.returns-then-self
unfolding pick clocked
returns-then-self c = rw (c.if-self.true, c.saturating_sub.ensures)

pub returns-else-self : goal.returns-else-self
unfolding pick clocked
returns-else-self c = rw c.if-self.false
