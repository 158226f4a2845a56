-- The parts are the definition's, by what the calls ensure. Assumes nothing.
use Rattle.channel_groups.specs.Groups.{silenced}
use Rattle.channel_groups.proofs.group.Group.silence.Goals as goal

pub returns : goal.returns
unfolding silenced
returns g c = rw c.set_enable-next.ensures
