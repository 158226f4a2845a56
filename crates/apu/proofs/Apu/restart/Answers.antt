-- Each way out is the position that the stored bit picks. Assumes nothing.
use Rattle.ground.specs.Pick.{pick}
use Rattle.apu.specs.Registers.{restarted}
use Rattle.apu.proofs.Apu.restart.Goals as goal

pub returns-then-self : goal.returns-then-self
unfolding pick restarted
returns-then-self c = rw (c.rewind-next-3.ensures, c.rewind-next-2.ensures, c.rewind-next.ensures, c.if-self.true)

pub returns-else-self : goal.returns-else-self
unfolding pick restarted
returns-else-self c = rw (c.rewind-next-3.ensures, c.rewind-next-2.ensures, c.rewind-next.ensures, c.if-self.false)
