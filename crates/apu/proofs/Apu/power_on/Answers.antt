-- Each way out is the case of `powered_on` that the model picks. Assumes nothing.
use Rattle.ground.specs.Pick.{pick}
use Rattle.apu.specs.Registers.{powered_on}
use Rattle.apu.proofs.Apu.power_on.Goals as goal

pub returns-then-self : goal.returns-then-self
unfolding pick powered_on
returns-then-self c = rw (c.restart-started.ensures, c.if-self.true)

pub returns-else-self : goal.returns-else-self
unfolding pick powered_on
returns-else-self c = rw (c.refill.ensures, c.restart-started.ensures, c.if-self.false)
