-- The parts are the definition's, by what the calls ensure. Assumes nothing.
use Rattle.channel_groups.specs.Groups.{readied}
use Rattle.channel_groups.proofs.group.Group.ready.Goals as goal

pub returns : goal.returns
unfolding readied
returns g c =
    let length-enable = c.write_length_enable-clocked in
    rw (c.set_enable-next.ensures, c.is_on.ensures, c.retune-tuned.ensures, length-enable.ensures)
