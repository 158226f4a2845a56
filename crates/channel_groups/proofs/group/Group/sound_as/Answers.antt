-- The parts are the definition's, by what the calls ensure. Assumes nothing.
use Rattle.channel_groups.specs.Groups.{sounded}
use Rattle.channel_groups.proofs.group.Group.sound_as.Goals as goal

pub returns : goal.returns
unfolding sounded
returns g c =
    let voice = c.voice-voiced in
    let muted = c.muted in
    let output = c.output in
    rw (voice.ensures, muted.ensures, output.ensures)
