-- Each arm is the case of `written` that the offset picks. Assumes nothing.
use borrow.Author.Tests.{ne_eqb}
use Rattle.ground.specs.Pick.{pick}
use Rattle.channel_groups.specs.PulseGroups.{written}
use Rattle.channel_groups.proofs.pulse_group.PulseGroup.write.Goals as goal

pub returns-in-1 : goal.returns-in-1
unfolding pick written
returns-in-1 c = rw (c.write_length.ensures, c.in-1.is)

pub returns-in-2 : goal.returns-in-2
unfolding pick written
returns-in-2 c = rw (c.write_envelope.ensures, c.in-2.is)

pub returns-in-3 : goal.returns-in-3
unfolding pick written
returns-in-3 c = rw (c.write_low.ensures, c.in-3.is)

pub returns-in-4 : goal.returns-in-4
unfolding pick written
returns-in-4 c = rw (c.write_control.ensures, c.in-4.is)

pub returns-in_default : goal.returns-in_default
unfolding pick written
returns-in_default c =
    let rest = c.in_default.in_default-own.rest in
    rw (ne_eqb _ _ rest.0.0.0.1, ne_eqb _ _ rest.0.0.1, ne_eqb _ _ rest.0.1, ne_eqb _ _ rest.1)
