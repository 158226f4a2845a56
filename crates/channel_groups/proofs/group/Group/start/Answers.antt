-- The parts are the definition's, by what the calls ensure. Assumes nothing.
use Rattle.channel_groups.specs.Groups.{triggered}
use Rattle.channel_groups.proofs.group.Group.start.Goals as goal

pub returns : goal.returns
unfolding triggered
returns g c = rw (c.trigger-next.ensures, c.trigger_length-next.ensures)
