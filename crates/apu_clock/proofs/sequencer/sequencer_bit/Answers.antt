-- Each way out is the bit that the speed picks. Assumes nothing.
use Rattle.ground.specs.Pick.{pick}
use Rattle.apu_clock.specs.Sequencer.{bit_of}
use Rattle.apu_clock.proofs.sequencer.sequencer_bit.Goals as goal

pub returns-then-double : goal.returns-then-double
unfolding pick bit_of
returns-then-double c = rw c.if-double.true

pub returns-else-double : goal.returns-else-double
unfolding pick bit_of
returns-else-double c = rw c.if-double.false
