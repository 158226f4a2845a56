-- Each way out is the case of `controlled` that the trigger bit picks; what is ready is in range. Assumes nothing.
use borrow.Author.Tests.{le-leb, lt-leb}
use Rattle.ground.specs.Pick.{pick}
use Rattle.channel_groups.specs.Groups.{controlled}
use Rattle.channel_groups.proofs.Ranges.{readied_held}
use Rattle.channel_groups.proofs.group.Group.write_control.Goals as goal

pub start-requires : goal.start-requires
start-requires g c = rw c.ready-ready.ensures (readied_held g.met.C.Channel.keeps _ c.requires _ _)

pub returns-then-value-ge128 : goal.returns-then-value-ge128
unfolding pick controlled
returns-then-value-ge128 g c = rw (c.start.ensures, c.ready-ready.ensures, le-leb _ _ c.if-value-ge128.true)

pub returns-else-value-ge128 : goal.returns-else-value-ge128
unfolding pick controlled
returns-else-value-ge128 g c = rw (c.ready-ready.ensures, lt-leb _ _ c.if-value-ge128.false)
