-- The parts are the definition's, by what the calls ensure. Assumes nothing.
use Rattle.channel_groups.specs.Groups.{clocked}
use Rattle.channel_groups.proofs.group.Group.clock.Goals as goal

pub returns : goal.returns
unfolding clocked
returns g c = rw c.clock-next.ensures
