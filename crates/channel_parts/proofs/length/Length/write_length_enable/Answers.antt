-- Each way out is the case of `enabling` that the test picks. Assumes nothing.
use Rattle.ground.specs.Pick.{pick}
use Rattle.channel_parts.specs.Length.{enabling}
use Rattle.channel_parts.proofs.length.Length.write_length_enable.Goals as goal

pub returns-then-newly_enabled : goal.returns-then-newly_enabled
unfolding pick enabling
returns-then-newly_enabled c = rw (c.clock_length_counter.ensures, ← c.newly_enabled.ensures, c.if-newly_enabled.true)

pub returns-else-newly_enabled : goal.returns-else-newly_enabled
unfolding pick enabling
returns-else-newly_enabled c = rw (← c.newly_enabled.ensures, c.if-newly_enabled.false)
