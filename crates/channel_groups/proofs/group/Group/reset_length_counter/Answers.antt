-- The parts are the definition's, by what the calls ensure. Assumes nothing.
use Rattle.channel_groups.specs.Groups.{refilled}
use Rattle.channel_groups.proofs.group.Group.reset_length_counter.Goals as goal

pub returns : goal.returns
unfolding refilled
returns g c = rw c.reset_length_counter-next.ensures
