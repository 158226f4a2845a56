-- The three are fresh, by what their calls ensure. Assumes nothing.
use Rattle.channel_groups.proofs.group.Group.new.Goals as goal

pub returns : goal.returns
returns g c = rw (c.new-channel.ensures, c.new-length.ensures, c.MAX_LENGTH.ensures, c.new-converter.ensures)
