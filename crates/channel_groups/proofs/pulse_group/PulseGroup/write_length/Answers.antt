-- Each way out is the case that the power picks. Assumes nothing.
use Rattle.ground.specs.Pick.{pick}
use Rattle.channel_groups.specs.PulseGroups.{length_written}
use Rattle.channel_groups.proofs.pulse_group.PulseGroup.write_length.Goals as goal

pub returns-then-power : goal.returns-then-power
unfolding pick length_written
returns-then-power c = rw (c.write_pattern_duty-next.ensures, c.write_sound_length-next.ensures, c.if-power.true)

pub returns-else-power : goal.returns-else-power
unfolding pick length_written
returns-else-power c = rw (c.write_sound_length-next.ensures, c.if-power.false)
