-- Each arm is the row that `duty_row` picks. Assumes nothing.
use borrow.Author.Tests.{ne_eqb}
use Rattle.ground.specs.Pick.{pick}
use Rattle.channel_pulse.specs.Pulse.{duty_row}
use Rattle.channel_pulse.proofs.pulse_channel.duty_row.Goals as goal

pub returns-in-0 : goal.returns-in-0
unfolding pick duty_row
returns-in-0 c = rw c.in-0.is

pub returns-in-1 : goal.returns-in-1
unfolding pick duty_row
returns-in-1 c = rw c.in-1.is

pub returns-in-2 : goal.returns-in-2
unfolding pick duty_row
returns-in-2 c = rw c.in-2.is

pub returns-in_default : goal.returns-in_default
unfolding pick duty_row
returns-in_default c = let rest = c.in_default.in_default-own.rest in rw (ne_eqb _ _ rest.0.0.1, ne_eqb _ _ rest.0.1, ne_eqb _ _ rest.1)
