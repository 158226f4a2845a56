-- The parts are the definition's, by what the calls ensure. Assumes nothing.
use Rattle.channel_groups.specs.Groups.{length_clocked}
use Rattle.channel_groups.proofs.group.Group.clock_length_counter.Goals as goal

pub returns : goal.returns
unfolding length_clocked
returns g c =
    let length = c.clock_length_counter-clocked in
    rw (c.set_enable-next.ensures, c.is_on.ensures, length.ensures)
