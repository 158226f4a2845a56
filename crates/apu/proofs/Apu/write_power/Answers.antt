-- Each arm is the case of `power_written` that bit 7 and the power pick. Assumes nothing.
use borrow.Author.Tests.{le-leb, lt-leb}
use Rattle.ground.specs.Pick.{pick}
use Rattle.apu.specs.Registers.{power_written}
use Rattle.apu.proofs.Apu.write_power.Goals as goal

pub returns-in-true-false : goal.returns-in-true-false
unfolding pick power_written
returns-in-true-false c = rw (c.power_on.ensures, le-leb _ _ c.in-true-false.is-0, c.in-true-false.is-1)

pub returns-in-false-true : goal.returns-in-false-true
unfolding pick power_written
returns-in-false-true c = rw (c.power_off.ensures, lt-leb _ _ c.in-false-true.is-0, c.in-false-true.is-1)

pub returns-in_default : goal.returns-in_default
unfolding pick power_written
returns-in_default c = rw (le-leb _ _ c.in_default.is-0, c.in_default.is-1)

pub returns-in_default-2 : goal.returns-in_default-2
unfolding pick power_written
returns-in_default-2 c = rw (lt-leb _ _ c.in_default.is-0, c.in_default.is-1)
